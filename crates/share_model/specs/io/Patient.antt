-- A piece that is offered again if the offer was interrupted. A relation `answers` says what a write call does to a
-- writer with a piece, and what it answers.
use Rattle.std.specs.Prelude.{◌≡◌, ◌≤◌, ℕ, ◌+◌, List}
use Rattle.share_model.specs.declared.writer.Answer.{Answer}
use Rattle.share_model.specs.declared.writer.Answer.TheVariants.{Interrupted}

-- n offers of this piece, each of which was interrupted, lead from the first writer to the last
pub data Repeats {W : Type 0} (answers : W → List ℕ → Answer → W → Type 0) (piece : List ℕ) (first : W)
    : ℕ → W → Type 0 where
  no_repeats : Repeats answers piece first 0 first
  one_repeat : (n : ℕ) (before after : W) → Repeats answers piece first n before
      → answers before piece Interrupted after → Repeats answers piece first (n + 1) after

-- the piece was offered, and offered again as long as the offer was interrupted, at most `most` times. The answer is
-- that to the last offer, and an interruption only if the piece was offered again `most` times
pub record PatientAnswers {W : Type 0} (answers : W → List ℕ → Answer → W → Type 0) (most : ℕ) (before : W)
    (piece : List ℕ) (answer : Answer) (after : W) : Type 0 where
  pub again : ℕ
  pub few : again ≤ most
  pub last : W
  pub repeats : Repeats answers piece before again last
  pub answered : answers last piece answer after
  pub gives_up : answer ≡ Interrupted → again ≡ most
