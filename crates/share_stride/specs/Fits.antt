-- Bounds under which the sums and products of passes fit their types.
use Rattle.std.specs.Prelude.{ℕ, ◌≤◌, ℤ}
use borrow.Author.Differences.{up, down}

-- z is at most this far from zero
pub record IsWithin (z : ℤ) (bound : ℕ) : Type 0 where
  pub below : down z ≤ bound
  pub above : up z ≤ bound
