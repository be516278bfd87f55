-- Decimals, and texts of a number and a unit.
use Rattle.std.proofs.Common.{◌≡◌, ◌<◌, ◌≤◌, ◌^◌, ℕ, true, nat_le, List, [], ◌∷◌, length}
use Rattle.std.proofs.Common.{None, Some, Result, Ok, Err, refl, sym, ap, ◌∙◌, arith, lit<, Bor}
use Rattle.std.proofs.lemmas.Str.Pattern.{IsSplitOnceResult, split_once_first}
use Rattle.std.specs.List.{list_all, position_or_len, before_first, after_first}
use Rattle.std.specs.Result.{result_ok}
use Rattle.std.specs.Str.Parse.{digits_value, ParsesUnsigned}
use Rattle.std.proofs.lemmas.Bool.{and_parts, and_from, leb-true, le-leb, lt-ltb, le-ltb, eq-eqb, ne_eqb}
use Rattle.std.proofs.lemmas.Str.Parse.{IsDigitsTest, IsNumeralModel, numerals_by_value, parse_digits}
use Rattle.share_spellings.specs.Amounts.{is_digit, begins_well, is_decimal, number_of, is_space, with_unit, ◌>>=◌}

-- each byte is a digit
abbrev AreDigits : List ℕ → Type 0
AreDigits ds = list_all is_digit ds ≡ true

tells_digits : IsDigitsTest AreDigits
tells_digits = record {
  empty = refl;
  parts = λ d ds all.
      let both = and_parts (is_digit d) (list_all is_digit ds) all in
      let ends = and_parts (nat_le 48 d) (nat_le d 57) both.0 in
      ((leb-true 48 d ends.0, leb-true d 57 ends.1), both.1);
  more = λ d ds within all.
      let here : is_digit d ≡ true =
      and_from (nat_le 48 d) (nat_le d 57) (le-leb 48 d within.0) (le-leb d 57 within.1) in
      and_from (is_digit d) (list_all is_digit ds) here all;
}

own : IsNumeralModel AreDigits (digits_value 10)
own = numerals_by_value AreDigits tells_digits

some_byte : (text : List ℕ) → begins_well text ≡ true → 0 < length text
some_byte [] e = let no : ⊥ = cc in absurd no
some_byte (b ∷ bs) e = omega arith

number_below : (text : List ℕ) → is_decimal text ≡ true → digits_value 10 text < 2 ^ 64
    → number_of text ≡ Some (digits_value 10 text)
number_below text is few = rw (is, lt-ltb (digits_value 10 text) (2 ^ 64) few)

number_above : (text : List ℕ) → is_decimal text ≡ true → 2 ^ 64 ≤ digits_value 10 text → number_of text ≡ None
number_above text is many = rw (is, le-ltb (digits_value 10 text) (2 ^ 64) many)

-- the parser of std reads a decimal as its number
pub parsed : {E : Type 0} (text : List ℕ) (r : Result ℕ E) → is_decimal text ≡ true → ParsesUnsigned 64 10 text r
    → result_ok r ≡ number_of text
parsed {E} text (Ok n) is h =
    let both = and_parts (begins_well text) (list_all is_digit text) is in
    let read = parse_digits own {E = E} 64 text (Ok n) h both.1 in
    ap Some read.1 ∙ sym (number_below text is read.0.1)
parsed {E} text (Err e) is h =
    let both = and_parts (begins_well text) (list_all is_digit text) is in
    let read = parse_digits own {E = E} 64 text (Err e) h both.1 in
    let many : 2 ^ 64 ≤ digits_value 10 text =
    not_below (digits_value 10 text) (λ few. read (some_byte text both.0, few)) in
    sym (number_above text is many)
  where
    not_below : (n : ℕ) → ¬ (n < 2 ^ 64) → 2 ^ 64 ≤ n
    not_below n none = omega arith

-- ---- A number and a unit

pub no_space : (text : List ℕ) → IsSplitOnceResult 32 text None → with_unit text ≡ None
no_space text h =
    rw (eq-eqb (position_or_len is_space text) (length text) (split_once_first 32 text None h (lit< tt)))

with_space : (text : List ℕ) → position_or_len is_space text < length text
    → with_unit text ≡ (number_of (before_first is_space text) >>= λ n. Some (n, after_first is_space text))
with_space text some =
    rw (ne_eqb (position_or_len is_space text) (length text) (λ e. absurd (omega arith)))

pub no_number : (text : List ℕ) (parts : Bor (List ℕ) × Bor (List ℕ)) → IsSplitOnceResult 32 text (Some parts)
    → number_of parts.0.now ≡ None → with_unit text ≡ None
no_number text parts h none =
    let split = split_once_first 32 text (Some parts) h (lit< tt) in
    let none_before : number_of (before_first is_space text) ≡ None = ap number_of (sym split.1) ∙ none in
    with_space text split.0 ∙ rw none_before

pub number_and_unit : (text : List ℕ) (parts : Bor (List ℕ) × Bor (List ℕ)) (n : ℕ)
    → IsSplitOnceResult 32 text (Some parts) → number_of parts.0.now ≡ Some n
    → with_unit text ≡ Some (n, parts.1.now)
number_and_unit text parts n h is =
    let split = split_once_first 32 text (Some parts) h (lit< tt) in
    let number_before : number_of (before_first is_space text) ≡ Some n = ap number_of (sym split.1) ∙ is in
    with_space text split.0 ∙ rw number_before (ap (λ u. Some (n, u)) (sym split.2))
