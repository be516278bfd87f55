use Rattle.std.proofs.Common.{ℕ, List}
use Rattle.share_disk.specs.OpenText.{HasText}
use Rattle.share_writer.proofs.writer.write_some.Given as goal

-- the text keeps its bytes
abbrev pub invariant-tries : goal.invariant-tries
invariant-tries g l =
    (goal.iterator-tries g).can_next l.iterator' × (goal.iterator-tries g).is_finite l.iterator'
    × ((before : List ℕ) → HasText l.initial.text before → HasText l.text before)
