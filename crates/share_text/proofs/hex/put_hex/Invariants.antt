use Rattle.std.proofs.Common.{length, ◌-◌}
use Rattle.share_model.specs.io.Calls.{Offers}
use Rattle.share_text.proofs.HexLemmas.{HexUpTo}
use Rattle.share_model.specs.io.Printing.{bytes_told}
use Rattle.share_text.proofs.hex.put_hex.Given as goal

abbrev pub invariant-loop-at : goal.invariant-loop-at
invariant-loop-at g l =
    HexUpTo (bytes_told (g.O.TellingWriter.told l.initial.output)) (bytes_told (g.O.TellingWriter.told l.output))
    l.bytes l.at
    × Offers g.O.TellingWriter.answers l.initial.output l.output

abbrev pub decreases-loop-at : goal.decreases-loop-at
decreases-loop-at g l = length l.bytes - l.at
