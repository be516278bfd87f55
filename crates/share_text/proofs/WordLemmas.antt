-- The cut of a list at the first byte of a kind.
use Rattle.std.proofs.Common.{◌≡◌, ◌<◌, ◌+◌, ℕ, Bool, true, false, List, [], ◌∷◌, ◌++◌, ◌-◌, ◌≤◌, ◌≢◌, length, take}
use Rattle.std.proofs.Common.{drop, get_or, suc, Option, None, Some, is_some, not, IsTrue, Bor, arith, sym, ◌∙◌, ap}
use Rattle.std.proofs.Common.{refl}
use Rattle.std.specs.List.{slice_split, All}
use Rattle.std.proofs.Math.Seq.{drop-cons}
use Rattle.std.proofs.lemmas.List.{take-append-drop, get_or-take, take_all, length-take-le, length-drop}
use Rattle.std.proofs.lemmas.List.Elements.{All-from_get_or}
use Rattle.std.proofs.lemmas.List.Splits.{slice_split_at, slice_split_none, length-slice_split}
use Rattle.std.specs.Option.{option_copied}
use Rattle.share_model.specs.text.Lines.{is_space, words_of}
use Rattle.share_text.specs.Words.{words_left}
use Rattle.memchr.specs.Find.{IsFirstByte}

not_true : (b : Bool) → (b ≡ true → ⊥) → b ≡ false
not_true true h = absurd (h refl)
not_true false h = refl

pub nowhere : (p : ℕ → Bool) (bs : List ℕ) → IsFirstByte p bs None → All (λ b. p b ≡ false) bs
nowhere p bs none = All-from_get_or (λ x. p x ≡ false) bs 0 (λ i h. not_true _ (none i (omega arith) h))

-- no byte passes: the list is one piece
pub split_nowhere : (p : ℕ → Bool) (bs : List ℕ) → IsFirstByte p bs None → slice_split p bs ≡ bs ∷ []
split_nowhere p bs none = slice_split_none p bs (nowhere p bs none)

pub passes_before : (p : ℕ → Bool) (bs : List ℕ) (at : ℕ) → IsFirstByte p bs (Some at)
    → All (λ b. p b ≡ false) (take at bs)
passes_before p bs at first =
    let short : at < length bs = first.0.high in
    All-from_get_or (λ x. p x ≡ false) (take at bs) 0 (λ i h.
    let below : i < at = omega (arith, length-take-le at bs) in
    rw (get_or-take at bs i 0 below) (not_true _ (first.0.before i (omega arith) below)))

-- the piece before the first byte that passes, and the pieces after it
pub split_first : (p : ℕ → Bool) (bs : List ℕ) (at : ℕ) → IsFirstByte p bs (Some at) → slice_split p bs ≡ take at bs
    ∷ slice_split p (drop (at + 1) bs)
split_first p bs at first =
    let whole : take at bs ++ (get_or bs at 0 ∷ drop (suc at) bs)
    ≡ bs = ap (λ r. take at bs ++ r) (sym (drop-cons bs at 0 first.0.high)) ∙ take-append-drop at bs in
    let on : suc at ≡ at + 1 = omega arith in
    sym (ap (slice_split p) whole) ∙ slice_split_at p (take at bs) _ _ (passes_before p bs at first) first.1
    ∙ ap (λ n. take at bs ∷ slice_split p (drop n bs)) on

-- the same, with the rest as a slice to the end
pub split_first_to_end : (p : ℕ → Bool) (bs : List ℕ) (at : ℕ) → IsFirstByte p bs (Some at) → slice_split p bs
    ≡ take at bs ∷ slice_split p (take (length bs - (at + 1)) (drop (at + 1) bs))
split_first_to_end p bs at first =
    let short : length (drop (at + 1) bs) ≤ length bs - (at + 1) = omega (arith, length-drop (at + 1) bs) in
    rw (take_all (length bs - (at + 1)) (drop (at + 1) bs) short) (split_first p bs at first)

nonempty : (bs : List ℕ) → words_of bs ≢ []
nonempty bs e = let n = length-slice_split is_space bs in let z : length (words_of bs)
    ≡ 0 = ap length e in absurd (omega arith)

-- no word is left if and only if nothing is to be read
pub ended_is : (o : Option (Bor (List ℕ))) (ws : List (List ℕ)) (r : Bool) → is_some o ≡ not r
    → words_left (option_copied o) ≡ ws → (IsTrue r → ws ≡ []) × (ws ≡ [] → IsTrue r)
ended_is None ws true e v = (λ h. sym v, λ h. refl)
ended_is None ws false e v = cc
ended_is (Some x) ws true e v = cc
ended_is (Some x) ws false e v = (λ h. cc, λ h. absurd (nonempty x.now (v ∙ h)))
