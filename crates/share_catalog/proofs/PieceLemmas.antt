-- Texts that are joined by a separator fall into the same pieces again.
use Rattle.std.proofs.Common.{◌≡◌, ◌≢◌, ◌<◌, ◌≤◌, ◌+◌, ◌-◌, ◌^◌, ℕ, Bool, true, false, List, [], ◌∷◌, ◌++◌, length}
use Rattle.std.proofs.Common.{take, drop, get_or, suc, Option, None, Some, decimal, is_some, not, IsTrue, Bor}
use Rattle.std.proofs.Common.{arith, sym, ◌∙◌, ap, refl, eqb}
use Rattle.std.specs.List.{slice_split, All, AllByRecursion, join_with_byte}
use Rattle.std.specs.Option.{option_copied}
use Rattle.std.specs.Str.Parse.{AllDigits}
use Rattle.std.proofs.Math.Seq.{drop-cons}
use Rattle.std.proofs.lemmas.List.{take-append-drop, get_or-take, take_all, length-take-le, length-drop}
use Rattle.std.proofs.lemmas.List.Elements.{All-from_get_or, All-from_recursion}
use Rattle.std.proofs.lemmas.List.Splits.{slice_split_at, slice_split_none, length-slice_split}
use Rattle.std.proofs.lemmas.List.Splits.{join_with_byte-slice_split}
use Rattle.std.proofs.lemmas.Bool.Decides.{nat_tests}
use Rattle.std.proofs.lemmas.Fmt.{decimal_is_IsNumeral}
use Rattle.std.proofs.lemmas.Str.Parse.{digit_from_value}
use Rattle.memchr.specs.Find.{IsFirstByte}
use Rattle.share_catalog.specs.Pieces.{pieces_of, pieces_left}
use Rattle.share_catalog.specs.Reads.{IsSpelledByNone, BeginsWithNone}

-- The cut at the first separator

not_true : (b : Bool) → (b ≡ true → ⊥) → b ≡ false
not_true true h = absurd (h refl)
not_true false h = refl

nowhere : (p : ℕ → Bool) (bs : List ℕ) → IsFirstByte p bs None → All (λ b. p b ≡ false) bs
nowhere p bs none = All-from_get_or (λ x. p x ≡ false) bs 0 (λ i h. not_true _ (none i (omega arith) h))

pub split_nowhere : (p : ℕ → Bool) (bs : List ℕ) → IsFirstByte p bs None → slice_split p bs ≡ bs ∷ []
split_nowhere p bs none = slice_split_none p bs (nowhere p bs none)

passes_before : (p : ℕ → Bool) (bs : List ℕ) (at : ℕ) → IsFirstByte p bs (Some at)
    → All (λ b. p b ≡ false) (take at bs)
passes_before p bs at first =
    let short : at < length bs = first.0.high in
    All-from_get_or (λ x. p x ≡ false) (take at bs) 0 (λ i h.
    let below : i < at = omega (arith, length-take-le at bs) in
    rw (get_or-take at bs i 0 below) (not_true _ (first.0.before i (omega arith) below)))

split_first : (p : ℕ → Bool) (bs : List ℕ) (at : ℕ) → IsFirstByte p bs (Some at) → slice_split p bs ≡ take at bs
    ∷ slice_split p (drop (at + 1) bs)
split_first p bs at first =
    let whole : take at bs ++ (get_or bs at 0 ∷ drop (suc at) bs)
    ≡ bs = ap (λ r. take at bs ++ r) (sym (drop-cons bs at 0 first.0.high)) ∙ take-append-drop at bs in
    let on : suc at ≡ at + 1 = omega arith in
    sym (ap (slice_split p) whole) ∙ slice_split_at p (take at bs) _ _ (passes_before p bs at first) first.1
    ∙ ap (λ n. take at bs ∷ slice_split p (drop n bs)) on

pub split_first_to_end : (p : ℕ → Bool) (bs : List ℕ) (at : ℕ) → IsFirstByte p bs (Some at) → slice_split p bs
    ≡ take at bs ∷ slice_split p (take (length bs - (at + 1)) (drop (at + 1) bs))
split_first_to_end p bs at first =
    let short : length (drop (at + 1) bs) ≤ length bs - (at + 1) = omega (arith, length-drop (at + 1) bs) in
    rw (take_all (length bs - (at + 1)) (drop (at + 1) bs) short) (split_first p bs at first)

nonempty : (c : ℕ) (bs : List ℕ) → pieces_of c bs ≢ []
nonempty c bs e = let n = length-slice_split (λ b. eqb b c) bs in let z : length (pieces_of c bs)
    ≡ 0 = ap length e in absurd (omega arith)

-- no piece is left exactly if nothing is to be read
pub ended_is : (c : ℕ) (o : Option (Bor (List ℕ))) (ws : List (List ℕ)) (r : Bool) → is_some o ≡ not r
    → pieces_left c (option_copied o) ≡ ws → (IsTrue r → ws ≡ []) × (ws ≡ [] → IsTrue r)
ended_is c None ws true e v = (λ h. sym v, λ h. refl)
ended_is c None ws false e v = cc
ended_is c (Some x) ws true e v = cc
ended_is c (Some x) ws false e v = (λ h. cc, λ h. absurd (nonempty c x.now (v ∙ h)))

-- Pieces without the separator

abbrev pub NoByte : ℕ → List ℕ → Type 0
NoByte c w = AllByRecursion (λ b. eqb b c ≡ false) w

pub no_byte-append : (c : ℕ) (v w : List ℕ) → NoByte c v → NoByte c w → NoByte c (v ++ w)
no_byte-append c [] w h k = k
no_byte-append c (b ∷ v) w h k = (h.0, no_byte-append c v w h.1 k)

low_byte : (c b : ℕ) → c < 48 → 48 ≤ b → eqb b c ≡ false
low_byte c b few high = grind (arith, nat_tests)

no_byte-digits : (c : ℕ) (ds : List ℕ) → c < 48 → AllDigits 10 ds → NoByte c ds
no_byte-digits c [] few h = tt
no_byte-digits c (d ∷ ds) few h = (low_byte c d few (digit_from_value d h.0).0, no_byte-digits c ds few h.1)

pub no_byte-decimal : (c n : ℕ) → c < 48 → n < 2 ^ 64 → NoByte c (decimal n)
no_byte-decimal c n few h = no_byte-digits c _ few (decimal_is_IsNumeral n h).0.1

pub pieces_of-join : (c : ℕ) (w : List ℕ) (ws : List (List ℕ)) → NoByte c w → AllByRecursion (NoByte c) ws
    → pieces_of c (join_with_byte c (w ∷ ws)) ≡ w ∷ ws
pieces_of-join c w [] h hs = slice_split_none (λ b. eqb b c) w (All-from_recursion _ w h)
pieces_of-join c w (v ∷ vs) h hs =
    slice_split_at (λ b. eqb b c) w c _ (All-from_recursion _ w h) (grind (arith, nat_tests))
    ∙ ap (λ r. w ∷ r) (pieces_of-join c v vs hs.0 hs.1)

pub join-pieces_of : (c : ℕ) (bs : List ℕ) → join_with_byte c (pieces_of c bs) ≡ bs
join-pieces_of c bs = join_with_byte-slice_split c bs

-- Values of first pieces

pub no_pieces : (A : Type 0) (text : A → List ℕ) (Fits : A → Type 0) (ps : List (List ℕ)) → ps ≡ []
    → BeginsWithNone A text Fits ps
no_pieces A text Fits ps e = record { none = λ a rest fits q. let z : text a ∷ rest ≡ [] = sym q ∙ e in cc }

pub other_piece : (A : Type 0) (text : A → List ℕ) (Fits : A → Type 0) (ps : List (List ℕ)) (p : List ℕ)
    (after : List (List ℕ)) → ps ≡ p ∷ after → IsSpelledByNone A text Fits p → BeginsWithNone A text Fits ps
other_piece A text Fits ps p after e lacks = record {
  none = λ a rest fits q.
      let z : text a ∷ rest ≡ p ∷ after = sym q ∙ e in
      lacks.none a fits (let w : text a ≡ p = cc in w);
}
