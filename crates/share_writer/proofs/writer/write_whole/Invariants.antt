use Rattle.std.proofs.Common.{ℕ, List, ◌++◌, ◌≤◌, length, take}
use Rattle.share_disk.specs.OpenText.{HasText}
use Rattle.share_writer.proofs.writer.write_whole.Given as goal

-- the first bytes are written
abbrev pub invariant-pieces : goal.invariant-pieces
invariant-pieces g l =
    (goal.iterator-pieces g).can_next l.iterator' × (goal.iterator-pieces g).is_finite l.iterator'
    × (l.done ≤ length l.bytes)
    × ((before : List ℕ) → HasText l.initial.text before → HasText l.text (before ++ take l.done l.bytes))
