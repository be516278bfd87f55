-- A fact for what was found, if it was found.
use Rattle.std.specs.Prelude.{Option, None, Some, ⊤}

-- P holds of the value, if there is one
abbrev pub IfFound : {A : Type 0} → Option A → (A → Type 0) → Type 0
IfFound None P = ⊤
IfFound (Some a) P = P a
