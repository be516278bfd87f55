-- A writer over memory that answers as a script says.
use Rattle.std.specs.Prelude.{◌≡◌, ◌⊎◌, ℕ, min, List, [], ◌∷◌, length, drop}
use Rattle.share_model.specs.declared.writer.Answer.{Answer}
use Rattle.share_model.specs.declared.writer.Answer.TheVariants.{Accepted, Interrupted, Failed}
use Rattle.share_model.specs.io.Told.{Told, Fits, with_first}

-- the answers that are left, and what was reported
pub record ScriptedState : Type 0 where
  pub answers : List Answer
  pub told : Told

-- an answer to a piece: a count is cut to the piece
abbrev pub cut_to : List ℕ → Answer → Answer
cut_to piece (Accepted k) = Accepted (min k (length piece))
cut_to piece Interrupted = Interrupted
cut_to piece Failed = Failed

-- the first of the answers that are left; if none is left, all is accepted
abbrev pub next_answer : List Answer → List ℕ → Answer
next_answer [] piece = Accepted (length piece)
next_answer (answer ∷ answers) piece = cut_to piece answer

abbrev pub told_after : Told → List ℕ → Answer → Told
told_after t piece (Accepted k) = with_first t piece k
told_after t piece Interrupted = t
told_after t piece Failed = t

-- the answer is the wanted one; but a call that is to accept bytes fails if it finds no memory
abbrev pub IsGiven : Answer → Answer → Type 0
IsGiven (Accepted k) answer = (answer ≡ Accepted k) ⊎ (answer ≡ Failed)
IsGiven Interrupted answer = answer ≡ Interrupted
IsGiven Failed answer = answer ≡ Failed

-- the script goes on by one answer, which is given
pub record ScriptedAnswers (before : ScriptedState) (piece : List ℕ) (answer : Answer) (after : ScriptedState)
    : Type 0 where
  pub left : after.answers ≡ drop 1 before.answers
  pub told : after.told ≡ told_after before.told piece answer
  pub fits : Fits piece answer
  pub given : IsGiven (next_answer before.answers piece) answer
