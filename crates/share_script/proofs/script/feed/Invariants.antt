use Rattle.std.proofs.Common.{◌-◌, length}
use Rattle.share_model.specs.io.Printing.{bytes_told}
use Rattle.share_script.specs.Script.{Wrote}
use Rattle.share_script.proofs.FeedLemmas.{FedUpTo}
use Rattle.share_script.proofs.script.feed.Given as goal

abbrev pub invariant-loop-count : goal.invariant-loop-count
invariant-loop-count g l =
    FedUpTo g.W.TellingWriter.told (bytes_told (g.O.TellingWriter.told l.initial.output)) l.initial.pending.spool
    (bytes_told (g.O.TellingWriter.told l.output)) l.pending.spool
    l.initial.session l.initial.pending.carry l.chunk l.at l.session l.pending.carry
    × Wrote g.W.TellingWriter.answers g.O.TellingWriter.answers l.initial.session.link.writer l.session.link.writer
    l.initial.output l.output

abbrev pub decreases-loop-count : goal.decreases-loop-count
decreases-loop-count g l = length l.chunk - l.at
