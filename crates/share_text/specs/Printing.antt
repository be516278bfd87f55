-- The line of some bytes in hexadecimal.
use Rattle.std.specs.Prelude.{List, [], ◌∷◌, ◌++◌, ℕ, codes}
use Rattle.share_model.specs.text.Lines.{hex}

-- the line of a link's bytes: their digits, or a hyphen if there are none
abbrev pub digits_or_hyphen : List ℕ → List ℕ
digits_or_hyphen [] = codes "-"
digits_or_hyphen (b ∷ bs) = hex (b ∷ bs)

abbrev pub out_line : List ℕ → List ℕ
out_line bs = codes "out " ++ (digits_or_hyphen bs ++ codes "\n")
