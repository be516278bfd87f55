-- The items of an array, by their places.
use Rattle.std.specs.Prelude.{ℕ, Bool, false, List, slice_index_or}

abbrev pub flags_of : List Bool → ℕ → Bool
flags_of fs p = slice_index_or fs p false

abbrev pub numbers_of : List ℕ → ℕ → ℕ
numbers_of ns p = slice_index_or ns p 0
