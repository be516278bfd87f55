-- The value of digits is read digit by digit.
use Rattle.std.proofs.Common.{◌≡◌, ◌<◌, ◌≤◌, ◌+◌, ◌-◌, ◌*◌, ◌^◌, ℕ, zero, suc, List, [], ◌∷◌, ◌++◌, length, drop}
use Rattle.std.proofs.Common.{get_or}
use Rattle.std.proofs.Common.{None, Some, true, false, decimal, replicate, arith, sym, ◌∙◌, ap, refl, ◌⊎◌, inl, inr}
use Rattle.std.specs.Char.{digit_value}
use Rattle.std.specs.Str.Parse.{AllDigits, digits_value, digits_value_after}
use Rattle.std.proofs.Math.Seq.{drop-cons}
use Rattle.std.proofs.lemmas.List.{drop_all}
use Rattle.std.proofs.lemmas.Bool.Decides.{nat_tests}
use Rattle.std.proofs.lemmas.Str.Parse.{digit_at}
use Rattle.std.proofs.lemmas.Fmt.{decimal_is_IsNumeral}
use Rattle.std.proofs.lemmas.Slice.Eq.{bytes_eq-Decides}
use Rattle.std.specs.Str.{bytes_eq}
use Rattle.share_catalog.specs.Reads.{IsSpelledByNone}
use Rattle.share_catalog.specs.Texts.{IsNumber}

-- the digits from the place on, after the value so far, are those of the whole word
pub record ValueUpTo (w : List ℕ) (at value : ℕ) : Type 0 where
  pub value_is : digits_value 10 w ≡ digits_value_after 10 value (drop at w)

pub not_a_digit : (w : List ℕ) (at : ℕ) → AllDigits 10 w → at < length w
    → (get_or w at 0 < 48) ⊎ (57 < get_or w at 0) → ⊥
not_a_digit w at all h out =
    let d = digit_at w at all h in
    elim out [ inl low ↦ absurd (omega arith) | inr high ↦ absurd (omega arith) ]

digit_value-digit : (d : ℕ) → 48 ≤ d → d ≤ 57 → digit_value d ≡ d - 48
digit_value-digit d low high = grind (arith, nat_tests)

at_digit : (w : List ℕ) (at : ℕ) → at < length w → drop at w ≡ get_or w at 0 ∷ drop (at + 1) w
at_digit w at h = let on : suc at ≡ at + 1 = omega arith in drop-cons w at 0 h ∙ ap (λ n. get_or w at 0 ∷ drop n w) on

after_le : (n : ℕ) (ds : List ℕ) → n ≤ digits_value_after 10 n ds
after_le n [] = omega arith
after_le n (d ∷ ds) = let h = after_le (n * 10 + digit_value d) ds in omega arith

pub one_more : (w : List ℕ) (at value : ℕ) → ValueUpTo w at value → at < length w → 48 ≤ get_or w at 0
    → get_or w at 0 ≤ 57 → digits_value 10 w
    ≡ digits_value_after 10 (value * 10 + (get_or w at 0 - 48)) (drop (at + 1) w)
one_more w at value so h low high =
    let d = digit_value-digit (get_or w at 0) low high in
    so.value_is ∙ ap (digits_value_after 10 value) (at_digit w at h)
    ∙ ap (λ n. digits_value_after 10 (value * 10 + n) (drop (at + 1) w)) d

pub too_great : (w : List ℕ) (at value : ℕ) → ValueUpTo w at value → at < length w → 48 ≤ get_or w at 0
    → get_or w at 0 ≤ 57 → 2 ^ 64 ≤ value * 10 + (get_or w at 0 - 48) → digits_value 10 w < 2 ^ 64 → ⊥
too_great w at value so h low high great few =
    let is = one_more w at value so h low high in
    let more = after_le (value * 10 + (get_or w at 0 - 48)) (drop (at + 1) w) in
    omega arith

pub read_all : (w : List ℕ) (at value : ℕ) → ValueUpTo w at value → length w ≤ at → digits_value 10 w ≡ value
read_all w at value so whole = so.value_is ∙ ap (digits_value_after 10 value) (drop_all at w whole)

pub not_below : (m n : ℕ) → ¬ (m < n) → n ≤ m
not_below m n h = omega arith

-- zeros in front change nothing
pub padded_value : (k : ℕ) (w : List ℕ) → digits_value 10 (replicate k 48 ++ w) ≡ digits_value 10 w
padded_value zero w = refl
padded_value (suc k) w = padded_value k w

pub padded_digits : (k : ℕ) (w : List ℕ) → AllDigits 10 w → AllDigits 10 (replicate k 48 ++ w)
padded_digits zero w h = h
padded_digits (suc k) w h = (omega arith, padded_digits k w h)

-- Bytes that spell no number

pub not_a_number : (w : List ℕ)
    → (AllDigits 10 w → digits_value 10 w < 2 ^ 64 → None ≡ Some (digits_value 10 w))
    → IsSpelledByNone ℕ decimal IsNumber w
not_a_number w none = record {
  none = λ n few e.
      let p = decimal_is_IsNumeral n few in
      let all : AllDigits 10 w = rw (← e) p.0.1 in
      let is : digits_value 10 w ≡ n = ap (digits_value 10) (sym e) ∙ p.1 in
      let never = none all (rw is few) in
      cc;
}

pub another_spelling : (w : List ℕ) (n : ℕ)
    → (AllDigits 10 w → digits_value 10 w < 2 ^ 64 → Some n ≡ Some (digits_value 10 w))
    → false ≡ bytes_eq (decimal n) w → IsSpelledByNone ℕ decimal IsNumber w
another_spelling w n read other = record {
  none = λ m few e.
      let p = decimal_is_IsNumeral m few in
      let all : AllDigits 10 w = rw (← e) p.0.1 in
      let is : digits_value 10 w ≡ m = ap (digits_value 10) (sym e) ∙ p.1 in
      let got : Some n ≡ Some (digits_value 10 w) = read all (rw is few) in
      let same : n ≡ m = (let v : n ≡ digits_value 10 w = cc in v) ∙ is in
      let yes : bytes_eq (decimal n) w ≡ true = (bytes_eq-Decides (decimal n) w).1 (ap decimal same ∙ e) in
      cc;
}

pub other_bytes : (v w : List ℕ) → false ≡ bytes_eq v w → v ≡ w → ⊥
other_bytes v w other e = let yes : bytes_eq v w ≡ true = (bytes_eq-Decides v w).1 e in cc
