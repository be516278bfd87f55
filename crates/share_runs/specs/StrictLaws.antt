-- A strict writer does what the `told` of the writer below it says.
use Rattle.std.specs.Prelude.{ℕ, Bool, List, [], ◌∷◌, ◌++◌, Option, option_map}
use Rattle.std.proofs.Common.{arith, sym, ap, ◌∙◌, subst}
use Rattle.std.proofs.lemmas.List.{take-append-le, length-append}
use mathlib.Core.List.{append_assoc}
use Rattle.share_model.specs.declared.writer.Answer.{Answer}
use Rattle.share_model.specs.declared.writer.Answer.TheVariants.{Accepted, Interrupted, Failed}
use Rattle.share_model.specs.io.Told.{Told, WasTold}
use Rattle.share_model.specs.io.PatientLaws.{Tells}
use Rattle.share_runs.specs.Strict.{StrictAnswers, goes_on, is_answer, is_refusal, is_over}

-- an answer to the front of a piece is an answer to the piece
pub told_of_part : (before after : Option Told) (part rest : List ℕ) (answer : Answer)
    → WasTold before part answer after → WasTold before (part ++ rest) answer after
told_of_part before after part rest (Accepted k) told =
    let more : List ℕ → Told → Told = λ bs t. record { bytes = t.bytes ++ bs; counts = t.counts ++ k ∷ [] } in (
      omega (arith, told.0, length-append part rest),
      told.1 ∙ ap (λ bs. option_map (more bs) before) (sym (take-append-le k part rest told.0)),
    )
told_of_part before after part rest Interrupted told = told
told_of_part before after part rest Failed told = told

pub strict_tells : {O : Type 0} (told : O → Option Told) (answers : O → List ℕ → Answer → O → Type 0)
    → Tells told answers → (before : O) (kept : List ℕ) (mark : Bool) (piece : List ℕ) (answer : Answer) (after : O)
    (keeps : List ℕ) (marks : Bool) → StrictAnswers answers before kept mark piece answer after keeps marks
    → WasTold (told before) piece answer (told after)
strict_tells told answers tells a kept mark piece answer b keeps marks (goes_on plain did k m) =
    tells a piece answer b did
strict_tells told answers tells a kept mark piece answer b keeps marks (is_answer line rest same plain other did k m) =
    let P : List ℕ → Type 0 = λ bs. WasTold (told a) bs answer (told b) in
    let short = tells a (line ++ 10 ∷ []) answer b did in
    subst P (append_assoc line (10 ∷ []) rest ∙ sym same)
    (told_of_part (told a) (told b) (line ++ 10 ∷ []) rest answer short)
strict_tells told answers tells a _ _ piece answer b _ _ (is_refusal line rest same plain some is did k m) =
    let P : List ℕ → Type 0 = λ bs. WasTold (told a) bs answer (told b) in
    subst P (sym same) (told_of_part (told a) (told b) line (10 ∷ rest) answer (tells a line answer b did))
strict_tells told answers tells a kept mark piece answer b keeps marks (is_over rest same is failed stays k m) =
    let P : Answer → Type 0 = λ x. WasTold (told a) piece x (told b) in subst P (sym failed) (ap told stays)
