-- A fact of each item of a list, by recursion on the list.
use Rattle.std.specs.Prelude.{List, [], ◌∷◌}

-- P holds of each item
abbrev pub Each : {A : Type 0} → (A → Type 0) → List A → Type 0
Each P [] = Unit {0}
Each P (x ∷ xs) = P x × Each P xs
