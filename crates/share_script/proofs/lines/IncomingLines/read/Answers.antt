use Rattle.std.proofs.Common.{if◌then◌else◌, []}
use Rattle.share_script.proofs.IncomingLemmas.{kept_by, clean_behind, came_behind}
use Rattle.share_script.proofs.lines.IncomingLines.read.Goals as goal

pub invariant_of-self : goal.invariant_of-self
invariant_of-self g c =
    let s = c.self.inside in
    let kept_is = kept_by c.end_given.new.kept (if s.is_given then [] else s.kept) c.as_slice.result.now s.chunk
    c.add.new.self c.end_given.ensures c.as_slice.ensures c.add.ensures in
    clean_behind c.args.self.now s.reader s.kept s.chunk s.is_given c.add.new.self c.self.view_is c.requires.unfinished
    kept_is

pub returns : goal.returns
returns g c =
    let s = c.self.inside in
    let kept_is = kept_by c.end_given.new.kept (if s.is_given then [] else s.kept) c.as_slice.result.now s.chunk
    c.add.new.self c.end_given.ensures c.as_slice.ensures c.add.ensures in
    record {
      came = came_behind _ _ c.args.self.now s.reader s.kept s.chunk s.is_given c.fill.result c.fill.new.reader
          c.add.new.self c.fill.new.self c.self.view_is c.requires.unfinished kept_is c.fill.ensures;
    }
