use Rattle.std.proofs.Common.{◌≡◌, ◌≤◌, ◌+◌, ◌*◌, ◌++◌, length, take}
use Rattle.share_catalog.specs.Texts.{tariffs_text}
use Rattle.share_catalog.proofs.tariffs.push_tariffs.Given as goal

abbrev pub invariant-loop-place : goal.invariant-loop-place
invariant-loop-place l =
    (l.text ≡ l.initial.text ++ tariffs_text (take l.place l.tariffs))
    × (length l.text ≤ length l.initial.text + 63 * l.place)
    × (length l.tariffs ≤ 8)
