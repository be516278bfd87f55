-- The outcome of a line of a script, on a link that holds what the lines before it left.
use Rattle.std.specs.Prelude.{◌≡◌, ℕ, Bool, true, List, Option, IfSome, ⊤, length}
use Rattle.share_model.specs.declared.line.Line.{Line}
use Rattle.share_model.specs.declared.writer.Answer.{Answer}
use Rattle.share_model.specs.declared.writer.Answer.TheVariants.{Accepted, Interrupted, Failed}
use Rattle.share_model.specs.link.Tariff.{AreInRange}
use Rattle.share_model.specs.link.View.{LinkView}
use Rattle.share_model.specs.run.Ends.{IsEndOf, TellsRun}
use Rattle.share_model.specs.io.Told.{Told}
use Rattle.share_model.specs.text.Talk.{Progress, start_of_script, is_first, line_answer, answer}

-- the link holds what the script came to, which before its first line is nothing. If its writer reports bytes and
-- counts, they are the script's
pub record Holds {W : Type 0} (told : W → Option Told) (link : LinkView W) (p : Progress) : Type 0 where
  pub fresh : is_first p ≡ true → p ≡ start_of_script
  pub ends : IsEndOf link.life link.rates p.state link.live
  pub tells : IfSome (told link.writer) (TellsRun p.state p.writes)
  pub range : AreInRange link.rates

-- the text is that of this answer, for some flag, and the link then holds what the script came to
pub record IsAnswerBy {W : Type 0} (told : W → Option Told) (next : Bool → Progress × List ℕ)
    (old : LinkView W) (text : List ℕ) (new : LinkView W) : Type 0 where
  pub lack : Bool
  pub text_is : text ≡ (next lack).1
  pub holds : Holds told new (next lack).0
  pub life : new.life ≡ old.life
  pub rates : new.rates ≡ old.rates

-- the line was answered as the next line of any script in progress on the link, the first or a later one
abbrev pub AnswersLine : {W : Type 0} → (W → Option Told) → LinkView W → Bool → Line → List ℕ → LinkView W → Type 0
AnswersLine told old first l text new =
    (p : Progress) → Holds told old p → is_first p ≡ first
    → IsAnswerBy told (λ lack. line_answer old.life old.rates p lack l) old text new

-- the same of the bytes of a line
abbrev pub AnswersBytes : {W : Type 0} → (W → Option Told) → LinkView W → Bool → List ℕ → List ℕ → LinkView W → Type 0
AnswersBytes told old first bytes text new =
    (p : Progress) → Holds told old p → is_first p ≡ first
    → IsAnswerBy told (λ lack. answer old.life old.rates p lack bytes) old text new

-- a writer over memory takes a whole piece, or fails
abbrev pub IsAllOrFailed : List ℕ → Answer → Type 0
IsAllOrFailed piece (Accepted k) = k ≡ length piece
IsAllOrFailed piece Interrupted = ⊥
IsAllOrFailed piece Failed = ⊤

abbrev pub TakesAll : {W : Type 0} → (W → List ℕ → Answer → W → Type 0) → Type 0
TakesAll {W} answers =
    (before : W) (piece : List ℕ) (answer : Answer) (after : W)
    → answers before piece answer after → IsAllOrFailed piece answer
