-- A patient writer does what the `told` of the writer below it says.
use Rattle.std.specs.Prelude.{◌≡◌, ℕ, List, Option, refl}
use Rattle.std.proofs.Common.{◌∙◌, subst}
use Rattle.share_model.specs.declared.writer.Answer.{Answer}
use Rattle.share_model.specs.declared.writer.Answer.TheVariants.{Interrupted}
use Rattle.share_model.specs.io.Patient.{Repeats, no_repeats, one_repeat, PatientAnswers}
use Rattle.share_model.specs.io.Told.{Told, WasTold}

-- a relation whose calls are reported
abbrev pub Tells : {W : Type 0} → (W → Option Told) → (W → List ℕ → Answer → W → Type 0) → Type 0
Tells {W = W} told answers =
    (before : W) (piece : List ℕ) (answer : Answer) (after : W) → answers before piece answer after
    → WasTold (told before) piece answer (told after)

-- offers that were interrupted report nothing
pub repeats_tell : {W : Type 0} (told : W → Option Told) (answers : W → List ℕ → Answer → W → Type 0)
    → Tells told answers → (piece : List ℕ) (first : W) (n : ℕ) (last : W) → Repeats answers piece first n last
    → told last ≡ told first
repeats_tell told answers tells piece first _ _ no_repeats = refl
repeats_tell told answers tells piece first _ _ (one_repeat n before after repeats interrupted) =
    tells before piece Interrupted after interrupted
    ∙ repeats_tell told answers tells piece first n before repeats

pub patient_tells : {W : Type 0} (told : W → Option Told) (answers : W → List ℕ → Answer → W → Type 0) (most : ℕ)
    → Tells told answers → (before : W) (piece : List ℕ) (answer : Answer) (after : W)
    → PatientAnswers answers most before piece answer after → WasTold (told before) piece answer (told after)
patient_tells told answers most tells before piece answer after did =
    subst (λ t. WasTold t piece answer (told after))
    (repeats_tell told answers tells piece before did.again did.last did.repeats)
    (tells did.last piece answer after did.answered)
