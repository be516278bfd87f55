-- Runs of the stride queue, and what two flows are charged in one.
use Rattle.std.specs.Prelude.{◌≡◌, ◌≢◌, ℕ, ◌*◌, ◌/◌, IsTrue, List, [], ◌∷◌, nat_eq, ◌≤ℤ◌, if◌then◌else◌}
use Rattle.share_model.specs.declared.stride.Client.{Client}
use Rattle.share_model.specs.stride.Moves.{Stride, Move, after_move, charge, client, add, remove}
use Rattle.share_model.specs.stride.Shares.{Charge, One, Other, IsWithinShare}

-- a charge of a flow, a move of one, or its client added or removed
pub data Step : Type 0 where
  Charges : ℕ → ℕ → Step
  Moves : ℕ → Move → Step
  Adds : ℕ → Step
  Removes : ℕ → Step

abbrev pub after_step : Stride → Step → Stride
after_step s (Charges f units) = charge s f units
after_step s (Moves f move) = after_move s f move
after_step s (Adds f) = add s f
after_step s (Removes f) = remove s f

-- neither flow moves, and `one` is charged only while its pass is at most that of `other`
abbrev pub IsFairStep : ℕ → ℕ → Stride → Step → Type 0
IsFairStep one other s (Charges f units) = f ≡ one → (client s one).pass ≤ℤ (client s other).pass
IsFairStep one other s (Moves f move) = (one ≢ f) × (other ≢ f)
IsFairStep one other s (Adds f) = (one ≢ f) × (other ≢ f)
IsFairStep one other s (Removes f) = (one ≢ f) × (other ≢ f)

abbrev pub IsFairRun : ℕ → ℕ → Stride → List Step → Type 0
IsFairRun one other s [] = Unit {0}
IsFairRun one other s (step ∷ steps) = IsFairStep one other s step × IsFairRun one other (after_step s step) steps

-- the part of a charge that is added to a pass
abbrev pub share : Client → ℕ → ℕ
share c units = c.stride * units / 1024

-- the charges of the two flows in a step
abbrev pub charges_in : ℕ → ℕ → Stride → Step → List Charge → List Charge
charges_in one other s (Moves f move) later = later
charges_in one other s (Adds f) later = later
charges_in one other s (Removes f) later = later
charges_in one other s (Charges f units) later =
    if nat_eq f one then One (share (client s one) units) ∷ later
    else if nat_eq f other then Other (share (client s other) units) ∷ later
    else later

abbrev pub charges_of : ℕ → ℕ → Stride → List Step → List Charge
charges_of one other s [] = []
charges_of one other s (step ∷ steps) = charges_in one other s step (charges_of one other (after_step s step) steps)

-- two flows compete and do not move: `one` is charged within its share beside `other`
abbrev pub RunsStayClose : Type 0
RunsStayClose =
    (one other : ℕ) (s : Stride) (steps : List Step) → one ≢ other → IsTrue (client s one).competes
    → IsTrue (client s other).competes → IsFairRun one other s steps
    → IsWithinShare (client s one).pass (client s other).pass (charges_of one other s steps)
