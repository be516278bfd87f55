use Rattle.share_verification.proofs.TableLemmas.{begun, next_line}
use Rattle.share_verification.proofs.table.add_lines.Goals as goal

pub loop-line-init : goal.loop-line-init
loop-line-init c = begun c.args.rows.now.items c.args.text.now c.requires

pub loop-line-preserved : goal.loop-line-preserved
loop-line-preserved c =
    next_line c.args.text.now c.in-Some.line.now c.in-Some.rest.now c.loop-line.left.now c.loop-line.rows.items
    c.add_line.new.rows.items c.loop-line.invariant c.in-Some.ensures c.in_ok-add_line.ensures
