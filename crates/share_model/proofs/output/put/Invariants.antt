use Rattle.std.proofs.Common.{length, ◌-◌}
use Rattle.share_model.specs.io.Calls.{Offers}
use Rattle.share_model.proofs.lemmas.io.OutputLemmas.{PutUpTo}
use Rattle.share_model.specs.io.Printing.{bytes_told}
use Rattle.share_model.proofs.output.put.Given as goal

abbrev pub invariant-loop-at : goal.invariant-loop-at
invariant-loop-at g l =
    PutUpTo (bytes_told (g.V.TellingWriter.told l.initial.output)) (g.V.TellingWriter.told l.output) l.bytes l.at
    × Offers g.V.TellingWriter.answers l.initial.output l.output

abbrev pub decreases-loop-at : goal.decreases-loop-at
decreases-loop-at g l = length l.bytes - l.at
