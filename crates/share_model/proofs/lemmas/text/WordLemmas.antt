-- A word of a line holds no space, and a field is read from its word and from no other.
use Rattle.std.specs.Prelude.{◌≡◌, ◌<◌, ◌≤◌, ◌+◌, ◌*◌, ◌/◌, ◌%◌, ◌^◌, ℕ, Bool, true, false, ◌&&◌, List, [], ◌∷◌}
use Rattle.std.specs.Prelude.{length, nat_le, nat_lt, decimal, None, Some, refl}
use Rattle.std.specs.List.{list_all, AllByRecursion}
use Rattle.std.specs.Str.{bytes_eq}
use Rattle.std.specs.Str.Parse.{digits_value, AllDigits}
use Rattle.std.proofs.Common.{arith, sym, cond}
use Rattle.std.proofs.lemmas.Fmt.{decimal_is_IsNumeral}
use Rattle.std.proofs.lemmas.Str.Parse.{digit_from_value}
use Rattle.std.proofs.lemmas.Slice.Eq.{bytes_eq-Decides}
use Rattle.std.proofs.lemmas.Bool.Decides.{nat_tests}
use Rattle.std.proofs.lemmas.Bool.{and_parts}
use Rattle.share_base.specs.Name.{is_name, is_name_byte}
use Rattle.share_model.specs.text.Lines.{hex_digit, hex, is_hex_digit, hex_value, is_pairs, from_pairs}
use Rattle.share_model.specs.text.Lines.{IsName, IsNumber, IsPayload, is_byte, is_space}
use Rattle.share_model.specs.text.Lines.{name_of, number_of, payload_of}

-- Booleans

-- Words hold no space

abbrev pub NoSpace : List ℕ → Type 0
NoSpace w = AllByRecursion (λ b. is_space b ≡ false) w

no_space-name_byte : (b : ℕ) → is_name_byte b ≡ true → is_space b ≡ false
no_space-name_byte b h = grind (arith, nat_tests)

pub no_space-name_bytes : (w : List ℕ) → list_all is_name_byte w ≡ true → NoSpace w
no_space-name_bytes [] h = tt
no_space-name_bytes (b ∷ bs) h =
    let p : (is_name_byte b ≡ true) × (list_all is_name_byte bs ≡ true) = and_parts _ _ h in
    (no_space-name_byte b p.0, no_space-name_bytes bs p.1)

pub no_space-name : (w : List ℕ) → IsName w → NoSpace w
no_space-name w h = no_space-name_bytes w (and_parts _ _ h).1

no_space-digit : (b : ℕ) → 48 ≤ b → is_space b ≡ false
no_space-digit b h = grind (arith, nat_tests)

no_space-digits : (ds : List ℕ) → AllDigits 10 ds → NoSpace ds
no_space-digits [] h = tt
no_space-digits (d ∷ ds) h = (no_space-digit d (digit_from_value d h.0).0, no_space-digits ds h.1)

pub no_space-decimal : (n : ℕ) → IsNumber n → NoSpace (decimal n)
no_space-decimal n h = no_space-digits _ (decimal_is_IsNumeral n h).0.1

pub high_hex_digit : (n : ℕ) → 48 ≤ hex_digit n
high_hex_digit n = grind (arith, nat_tests)

pub no_space-hex : (bs : List ℕ) → NoSpace (hex bs)
no_space-hex [] = tt
no_space-hex (b ∷ bs) = (no_space-digit _ (high_hex_digit _), (no_space-digit _ (high_hex_digit _), no_space-hex bs))

-- Each field is read from its word, and from no other

pub bytes_eq-same : (w : List ℕ) → bytes_eq w w ≡ true
bytes_eq-same w = (bytes_eq-Decides w w).1 refl

pub name_of-name : (w : List ℕ) → IsName w → name_of w ≡ Some w
name_of-name w h = rw h refl

name_by : (w : List ℕ) (b : Bool) → is_name w ≡ b → (n : List ℕ) → cond b (Some w) None ≡ Some n → IsName n × (w ≡ n)
name_by w true h n e = let q : w ≡ n = cc in (rw (← q) h, q)
name_by w false h n e = cc

pub name_of-only : (w n : List ℕ) → name_of w ≡ Some n → IsName n × (w ≡ n)
name_of-only w n e = name_by w (is_name w) refl n e

pub number_of-decimal : (n : ℕ) → IsNumber n → number_of (decimal n) ≡ Some n
unfolding number_of
number_of-decimal n h =
    let p = decimal_is_IsNumeral n h in
    let small : nat_lt n (2 ^ 64) ≡ true = grind (arith, nat_tests) in
    rw (p.1, small, bytes_eq-same (decimal n)) refl

number_by : (w : List ℕ) (v : ℕ) (small same : Bool) → nat_lt v (2 ^ 64) ≡ small → bytes_eq (decimal v) w ≡ same
    → (n : ℕ) → cond (small && same) (Some v) None ≡ Some n → IsNumber n × (w ≡ decimal n)
number_by w v true true hs he n e =
    let q : v ≡ n = cc in
    let spells : decimal v ≡ w = (bytes_eq-Decides (decimal v) w).0 he in
    let few : v < 2 ^ 64 = grind (arith, nat_tests) in
    (rw (← q) few, rw (← q) (sym spells))
number_by w v true false hs he n e = cc
number_by w v false same hs he n e = cc

pub number_of-only : (w : List ℕ) (n : ℕ) → number_of w ≡ Some n → IsNumber n × (w ≡ decimal n)
unfolding number_of
number_of-only w n e = number_by w (digits_value 10 w) _ _ refl refl n e

-- a digit of a number below 16 is a digit, and has its value
is_hex_digit-hex_digit : (n : ℕ) → n < 16 → is_hex_digit (hex_digit n) ≡ true
is_hex_digit-hex_digit n h = grind (arith, nat_tests)

hex_value-hex_digit : (n : ℕ) → n < 16 → hex_value (hex_digit n) ≡ n
hex_value-hex_digit n h = grind (arith, nat_tests)

hex_digit-hex_value : (c : ℕ) → is_hex_digit c ≡ true → hex_digit (hex_value c) ≡ c
hex_digit-hex_value c h = grind (arith, nat_tests)

hex_value-small : (c : ℕ) → is_hex_digit c ≡ true → hex_value c < 16
hex_value-small c h = grind (arith, nat_tests)

is_byte-small : (b : ℕ) → is_byte b ≡ true → b < 256
is_byte-small b h = grind (arith, nat_tests)

small-is_byte : (b : ℕ) → b < 256 → is_byte b ≡ true
small-is_byte b h = grind (arith, nat_tests)

divided : (b : ℕ) → b < 256 → (b / 16 < 16) × (b % 16 < 16) × ((b / 16) * 16 + b % 16 ≡ b)
divided b h = (omega arith, omega arith, omega arith)

joined : (h l : ℕ) → l < 16 → ((h * 16 + l) / 16 ≡ h) × ((h * 16 + l) % 16 ≡ l)
joined h l small = (omega arith, omega arith)

is_pairs-hex : (bs : List ℕ) → list_all is_byte bs ≡ true → is_pairs (hex bs) ≡ true
is_pairs-hex [] e = refl
is_pairs-hex (b ∷ bs) e =
    let p : (is_byte b ≡ true) × (list_all is_byte bs ≡ true) = and_parts _ _ e in
    let d = divided b (is_byte-small b p.0) in
    rw (is_hex_digit-hex_digit _ d.0, is_hex_digit-hex_digit _ d.1, is_pairs-hex bs p.1) refl

from_pairs-hex : (bs : List ℕ) → list_all is_byte bs ≡ true → from_pairs (hex bs) ≡ bs
from_pairs-hex [] e = refl
from_pairs-hex (b ∷ bs) e =
    let p : (is_byte b ≡ true) × (list_all is_byte bs ≡ true) = and_parts _ _ e in
    let d = divided b (is_byte-small b p.0) in
    rw (hex_value-hex_digit _ d.0, hex_value-hex_digit _ d.1, d.2, from_pairs-hex bs p.1) refl

pub length-hex : (bs : List ℕ) → length (hex bs) ≡ 2 * length bs
length-hex [] = refl
length-hex (b ∷ bs) = omega (arith, length-hex bs)

pub payload_of-hex : (bs : List ℕ) → IsPayload bs → payload_of (hex bs) ≡ Some bs
payload_of-hex bs h =
    let n = length-hex bs in
    let long : nat_le 2 (length (hex bs)) ≡ true = grind (arith, nat_tests) in
    rw (long, is_pairs-hex bs h.1, from_pairs-hex bs h.1) refl

pub hex-from_pairs : (w : List ℕ) → is_pairs w ≡ true
    → (hex (from_pairs w) ≡ w) × (list_all is_byte (from_pairs w) ≡ true) × (2 * length (from_pairs w) ≡ length w)
hex-from_pairs [] e = (refl, refl, refl)
hex-from_pairs (c ∷ []) e = cc
hex-from_pairs (c ∷ d ∷ cs) e =
    let p : ((is_hex_digit c && is_hex_digit d) ≡ true) × (is_pairs cs ≡ true) = and_parts _ _ e in
    let q : (is_hex_digit c ≡ true) × (is_hex_digit d ≡ true) = and_parts _ _ p.0 in
    let r = hex-from_pairs cs p.1 in
    let hc : hex_value c < 16 = hex_value-small c q.0 in
    let hd : hex_value d < 16 = hex_value-small d q.1 in
    let j = joined (hex_value c) (hex_value d) hd in
    let small : hex_value c * 16 + hex_value d < 256 = omega arith in
    let byte : is_byte (hex_value c * 16 + hex_value d) ≡ true = small-is_byte _ small in (
      rw (j.0, j.1, hex_digit-hex_value c q.0, hex_digit-hex_value d q.1, r.0) refl,
      rw (byte, r.1) refl,
      omega (arith, r.2),
    )

payload_by : (w : List ℕ) (long pairs : Bool) → nat_le 2 (length w) ≡ long → is_pairs w ≡ pairs → (bs : List ℕ)
    → cond (long && pairs) (Some (from_pairs w)) None ≡ Some bs → IsPayload bs × (w ≡ hex bs)
payload_by w true true hl hp bs e =
    let q : from_pairs w ≡ bs = cc in
    let r = hex-from_pairs w hp in
    let two : 2 ≤ length w = grind (arith, nat_tests) in
    let one : 1 ≤ length (from_pairs w) = omega (arith, r.2) in
    ((rw (← q) one, rw (← q) r.1), rw (← q) (sym r.0))
payload_by w true false hl hp bs e = cc
payload_by w false pairs hl hp bs e = cc

pub payload_of-only : (w bs : List ℕ) → payload_of w ≡ Some bs → IsPayload bs × (w ≡ hex bs)
payload_of-only w bs e = payload_by w _ _ refl refl bs e
