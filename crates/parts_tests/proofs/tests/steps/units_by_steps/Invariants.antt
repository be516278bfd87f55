use Rattle.std.proofs.Common.{◌≡◌, ◌<◌, ◌+◌, ◌*◌, ◌-◌, ℕ}
use Rattle.parts_tests.proofs.tests.steps.units_by_steps.Given as goal

-- whole cells are covered, the last of them begun within the bytes
abbrev pub invariant-loop-covered : goal.invariant-loop-covered
invariant-loop-covered l = (k : ℕ) × (l.covered ≡ l.cell * k + l.cell) × (l.cell * k < l.count)

abbrev pub decreases-loop-covered : goal.decreases-loop-covered
decreases-loop-covered l = l.count - l.covered
