use Rattle.share_script.proofs.IncomingLemmas.{kept_piece}
use Rattle.share_script.proofs.lines.keep_line.Goals as goal

pub returns-in-Some : goal.returns-in-Some
returns-in-Some c =
    kept_piece c.args.kept.now c.args.chunk.now c.as_slice-bytes.result.now c.add-in-Some.new.self c.pass.new.self
    c.in-Some.count c.as_slice-bytes.ensures c.in-Some.ensures c.add-in-Some.ensures c.pass.ensures
