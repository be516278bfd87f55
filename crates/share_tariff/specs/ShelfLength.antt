-- The number of tariffs that a shelf has.
use Rattle.std.specs.Prelude.{ℕ, Bool, ◌&&◌, nat_le}

abbrev pub is_shelf_length : ℕ → Bool
is_shelf_length n = nat_le 1 n && nat_le n 8
