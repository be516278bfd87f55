use Rattle.std.proofs.Common.{◌≡◌, ◌+◌, ◌-◌, ◌*◌, length, Some}
use Rattle.share_text.proofs.HexLemmas.{HexUpTo}
use Rattle.share_text.proofs.spelling.push_hex.Given as goal

abbrev pub invariant-loop-at : goal.invariant-loop-at
invariant-loop-at l =
    HexUpTo (Some l.initial.text) (Some l.text) l.bytes l.at × (length l.text ≡ length l.initial.text + 2 * l.at)

abbrev pub decreases-loop-at : goal.decreases-loop-at
decreases-loop-at l = length l.bytes - l.at
