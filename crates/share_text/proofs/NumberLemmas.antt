-- A number is read digit by digit.
use Rattle.std.proofs.Common.{◌≡◌, ◌<◌, ◌≤◌, ◌+◌, ◌-◌, ◌*◌, ◌^◌, ℕ, true, false, List, [], ◌∷◌, length, drop, get_or}
use Rattle.std.proofs.Common.{zero, suc, Option, None, Some, decimal, arith, sym, ◌∙◌, ap, refl, ◌⊎◌, inl, inr}
use Rattle.std.specs.Char.{digit_value}
use Rattle.std.specs.Fmt.{digits}
use Rattle.std.specs.Str.Parse.{AllDigits, digits_value, digits_value_after}
use Rattle.std.proofs.Math.Seq.{drop-cons}
use Rattle.std.proofs.lemmas.List.{drop_all}
use Rattle.std.proofs.lemmas.Bool.Decides.{nat_tests}
use Rattle.std.proofs.lemmas.Fmt.{decimal_is_IsNumeral, decimal-digits_value, first_decimal}
use Rattle.std.proofs.lemmas.Str.Parse.{IsNumeralModel, numerals_by_value, tells_digits, digit_at}
use Rattle.share_model.specs.text.Lines.{IsNumber, number_of}
use Rattle.share_model.proofs.lemmas.text.WordLemmas.{number_of-decimal, number_of-only}
use Rattle.share_text.specs.Words.{begins_number}

-- the digits from the place on, after the value so far, are those of the whole word; and they are digits only if all
-- are
pub record ReadUpTo (w : List ℕ) (at value : ℕ) : Type 0 where
  pub value_is : digits_value 10 w ≡ digits_value_after 10 value (drop at w)
  pub digits : AllDigits 10 (drop at w) → AllDigits 10 w
  pub fits : value < 2 ^ 64

-- if no number has this decimal, none is read
not_decimal : (w : List ℕ) (o : Option ℕ) → number_of w ≡ o → ((n : ℕ) → IsNumber n → w ≡ decimal n → ⊥) → number_of w
    ≡ None
not_decimal w None e h = e
not_decimal w (Some n) e h = let p = number_of-only w n e in absurd (h n p.0 p.1)

begins_high : (w : List ℕ) → 48 < get_or w 0 0 → 0 < length w → begins_number w ≡ true
begins_high w high some = grind (arith, nat_tests)

decimal_begins : (n : ℕ) → IsNumber n → begins_number (decimal n) ≡ true
unfolding digits
decimal_begins zero h = refl
decimal_begins (suc n) h =
    let first = first_decimal (suc n) (omega arith) h in
    let some = (decimal_is_IsNumeral (suc n) h).0.0 in
    begins_high (decimal (suc n)) first some

pub not_begun : (w : List ℕ) → begins_number w ≡ false → number_of w ≡ None
not_begun w e = not_decimal w _ refl (λ n h q. let b : begins_number w ≡ true = rw q (decimal_begins n h) in cc)

digits_of_decimal : (w : List ℕ) (n : ℕ) → IsNumber n → w ≡ decimal n → AllDigits 10 w
digits_of_decimal w n h e = rw e (decimal_is_IsNumeral n h).0.1

pub not_a_digit : (w : List ℕ) (at : ℕ) → at < length w → (get_or w at 0 < 48) ⊎ (57 < get_or w at 0) → number_of w
    ≡ None
not_a_digit w at h out =
    not_decimal w _ refl
    (λ n few e. let d = digit_at w at (digits_of_decimal w n few e) h in
    elim out [ inl low ↦ absurd (omega arith) | inr high ↦ absurd (omega arith) ])

digit_value-digit : (d : ℕ) → 48 ≤ d → d ≤ 57 → digit_value d ≡ d - 48
digit_value-digit d low high = grind (arith, nat_tests)

at_digit : (w : List ℕ) (at : ℕ) → at < length w → drop at w ≡ get_or w at 0 ∷ drop (at + 1) w
at_digit w at h = let on : suc at ≡ at + 1 = omega arith in drop-cons w at 0 h ∙ ap (λ n. get_or w at 0 ∷ drop n w) on

after_le : (n : ℕ) (ds : List ℕ) → n ≤ digits_value_after 10 n ds
after_le n [] = omega arith
after_le n (d ∷ ds) = let h = after_le (n * 10 + digit_value d) ds in omega arith

pub too_great : (w : List ℕ) (at value : ℕ) → ReadUpTo w at value → at < length w → 48 ≤ get_or w at 0
    → get_or w at 0 ≤ 57 → 2 ^ 64 ≤ value * 10 + (get_or w at 0 - 48) → number_of w ≡ None
too_great w at value so h low high great =
    let d = digit_value-digit (get_or w at 0) low high in
    let is : digits_value 10 w ≡ digits_value_after 10 (value * 10 + (get_or w at 0 - 48)) (drop (at + 1) w) =
    so.value_is ∙ ap (digits_value_after 10 value) (at_digit w at h)
    ∙ ap (λ n. digits_value_after 10 (value * 10 + n) (drop (at + 1) w)) d in
    let more = after_le (value * 10 + (get_or w at 0 - 48)) (drop (at + 1) w) in
    not_decimal w _ refl (λ n few e.
    let v : digits_value 10 w ≡ n = ap (digits_value 10) e ∙ (decimal_is_IsNumeral n few).1 in
    absurd (omega arith))

own : IsNumeralModel (AllDigits 10) (digits_value 10)
own = numerals_by_value (AllDigits 10) tells_digits

begun : (w : List ℕ) → begins_number w ≡ true → (0 < length w) × (get_or w 0 0 ≡ 48 → length w ≡ 1)
begun w e = (grind (arith, nat_tests), λ z. grind (arith, nat_tests))

pub read_all : (w : List ℕ) (at value : ℕ) → ReadUpTo w at value → length w ≤ at → begins_number w ≡ true
    → number_of w ≡ Some value
read_all w at value so whole e =
    let none : drop at w ≡ [] = drop_all at w whole in
    let all : AllDigits 10 w = so.digits (rw none tt) in
    let is : digits_value 10 w ≡ value = so.value_is ∙ ap (digits_value_after 10 value) none in
    let few : digits_value 10 w < 2 ^ 64 = rw is so.fits in
    let b = begun w e in
    let spells : decimal (digits_value 10 w) ≡ w = decimal-digits_value own w all b.0 b.1 few in
    ap number_of (sym spells) ∙ number_of-decimal (digits_value 10 w) few ∙ ap Some is

pub not_below : (m n : ℕ) → ¬ (m < n) → n ≤ m
not_below m n h = omega arith
