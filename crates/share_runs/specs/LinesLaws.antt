-- A reader of lines gives the bytes that the `told` of the reader below it has.
use Rattle.std.specs.Prelude.{◌≡◌, ◌≤◌, ℕ, Bool, List, [], ◌∷◌, length, take, Option}
use Rattle.std.proofs.Common.{refl, arith, ap, subst, zero, suc}
use Rattle.std.proofs.lemmas.List.{length-take}
use Rattle.std.specs.Io.KnownBytes.{Consumes}
use Rattle.share_model.specs.declared.reader.Got.{Got}
use Rattle.share_model.specs.declared.reader.Got.TheVariants.{Bytes, End, Interrupted, Failed}
use Rattle.share_model.specs.io.Given.{Gives}
use Rattle.share_runs.specs.Lines.{LineGives}

-- the beginning of a buffer's beginning
pub take_of_take : {A : Type 0} (m n : ℕ) (xs : List A) → m ≤ length (take n xs) → take m (take n xs) ≡ take m xs
take_of_take zero n xs few = refl
take_of_take (suc m) zero xs few = absurd (omega (arith, few))
take_of_take (suc m) (suc n) [] few = refl
take_of_take (suc m) (suc n) (x ∷ xs) few = ap (λ ys. x ∷ ys) (take_of_take m n xs (omega (arith, few)))

given_of_part : (left : Option (List ℕ)) (buffer : List ℕ) (got : Got) (rest : Option (List ℕ))
    → Gives left (take 1 buffer) got rest → Gives left buffer got rest
given_of_part left buffer (Bytes n) rest gave =
    let few = length-take 1 buffer in
    let P : List ℕ → Type 0 = λ bs. Consumes left rest bs in
    (gave.0, omega (arith, gave.1, few), subst P (take_of_take n 1 buffer gave.1) gave.2)
given_of_part left buffer End rest gave = gave
given_of_part left buffer Interrupted rest gave = gave
given_of_part left buffer Failed rest gave = gave

pub lines_tell : {I : Type 0} (left : I → Option (List ℕ)) (gives : I → List ℕ → Got → I → Type 0)
    → ((before : I) (buffer : List ℕ) (got : Got) (after : I) → gives before buffer got after
    → Gives (left before) buffer got (left after))
    → (before : I) (number : ℕ) (kept : List ℕ) (ended : Bool) (buffer : List ℕ) (got : Got) (after : I)
    (numbers : ℕ) (keeps : List ℕ) (ends : Bool)
    → LineGives gives before number kept ended buffer got after numbers keeps ends
    → Gives (left before) buffer got (left after)
lines_tell left gives tells before number kept ended buffer got after numbers keeps ends did =
    given_of_part (left before) buffer got (left after) (tells before (take 1 buffer) got after did.gave)
