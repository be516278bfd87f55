use Rattle.std.proofs.Common.{length}
use Rattle.share_model.specs.io.Calls.{Offers}
use Rattle.share_model.specs.io.Printing.{bytes_told}
use Rattle.share_journal.proofs.AuditLemmas.{WrittenBefore}
use Rattle.share_journal.proofs.audit.write_events.Given as goal

abbrev pub invariant-loop-first : goal.invariant-loop-first
invariant-loop-first g l =
    WrittenBefore (bytes_told (g.V.TellingWriter.told l.initial.output)) (bytes_told (g.V.TellingWriter.told l.output))
    l.entries
    l.rest
    × Offers g.V.TellingWriter.answers l.initial.output l.output

abbrev pub decreases-loop-first : goal.decreases-loop-first
decreases-loop-first g l = length l.rest
