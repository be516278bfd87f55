-- Texts in columns.
use Rattle.std.specs.Prelude.{ℕ, ◌-◌, List, ◌++◌, length, replicate}

abbrev pub spaces : ℕ → List ℕ
spaces n = replicate n 32

-- a text at the left, or at the right, of a column of this width, and spaces in the rest. A text longer than its column
-- is not cut
unfoldable pub at_left : ℕ → List ℕ → List ℕ
at_left width text = text ++ spaces (width - length text)

unfoldable pub at_right : ℕ → List ℕ → List ℕ
at_right width text = spaces (width - length text) ++ text
