-- The charges of two flows that compete, `one` and `other`, on the scale of their passes.
use Rattle.std.specs.Prelude.{ℕ, ◌+◌, max, List, [], ◌∷◌, ℤ, pos, ◌+ℤ◌, ◌-ℤ◌, ◌≤ℤ◌}
use Rattle.std.specs.Int.{int_max}

-- a charge of this much to `one`, or to `other`
pub data Charge : Type 0 where
  One : ℕ → Charge
  Other : ℕ → Charge

abbrev pub to_one : List Charge → ℕ
to_one [] = 0
to_one (One n ∷ rest) = n + to_one rest
to_one (Other n ∷ rest) = to_one rest

abbrev pub to_other : List Charge → ℕ
to_other [] = 0
to_other (One n ∷ rest) = to_other rest
to_other (Other n ∷ rest) = n + to_other rest

-- the largest single charge to `one`
abbrev pub largest_to_one : List Charge → ℕ
largest_to_one [] = 0
largest_to_one (One n ∷ rest) = max n (largest_to_one rest)
largest_to_one (Other n ∷ rest) = largest_to_one rest

-- from these passes on, `one` is charged only while its pass is at most that of `other`
abbrev pub ChargesLeast : ℤ → ℤ → List Charge → Type 0
ChargesLeast one other [] = Unit {0}
ChargesLeast one other (One n ∷ rest) = (one ≤ℤ other) × ChargesLeast (one +ℤ pos n) other rest
ChargesLeast one other (Other n ∷ rest) = ChargesLeast one (other +ℤ pos n) rest

-- the charges to `one` are at most the greater of 0 and a sum of three terms. They are those to `other`, the distance
-- that the pass of `other` was ahead at the start, and the largest charge to `one`
abbrev pub IsWithinShare : ℤ → ℤ → List Charge → Type 0
IsWithinShare one other charges =
    pos (to_one charges) ≤ℤ int_max (pos 0) (pos (to_other charges) +ℤ (other -ℤ one) +ℤ pos (largest_to_one charges))

-- this holds whatever the passes at the start
abbrev pub SharesStayClose : Type 0
SharesStayClose =
    (one other : ℤ) (charges : List Charge) → ChargesLeast one other charges → IsWithinShare one other charges
