use Rattle.std.proofs.Common.{◌≤◌, ◌-◌, length}
use Rattle.share_core.specs.Levels.{AreSameFrom}
use Rattle.share_core.proofs.link.levelling.next_changed.Given as goal

abbrev pub invariant-loop-place : goal.invariant-loop-place
invariant-loop-place l = record {
  past : l.from ≤ l.place;
  same : AreSameFrom l.levelled_with l.tickets l.from l.place;
}

abbrev pub decreases-loop-place : goal.decreases-loop-place
decreases-loop-place l = length l.tickets - l.place
