-- A change of the first item that passes a test.
use Rattle.std.specs.Prelude.{Bool, List, [], ◌∷◌, if◌then◌else◌}

unfoldable pub change_first : {A : Type 0} → (A → Bool) → (A → A) → List A → List A
change_first p change [] = []
change_first p change (x ∷ xs) = if p x then change x ∷ xs else x ∷ change_first p change xs
