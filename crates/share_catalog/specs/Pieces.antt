-- The pieces of a text between separators.
use Rattle.std.specs.Prelude.{ℕ, List, [], ◌==◌, Option, None, Some}
use Rattle.std.specs.List.{slice_split}

abbrev pub pieces_of : ℕ → List ℕ → List (List ℕ)
pieces_of separator text = slice_split (λ b. b == separator) text

-- the pieces that are not read yet
abbrev pub pieces_left : ℕ → Option (List ℕ) → List (List ℕ)
pieces_left separator None = []
pieces_left separator (Some rest) = pieces_of separator rest
