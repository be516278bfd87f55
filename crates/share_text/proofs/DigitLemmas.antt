-- Digits are decoded two for each byte.
use Rattle.std.proofs.Common.{◌≡◌, ◌<◌, ◌≤◌, ◌+◌, ◌*◌, ◌%◌, ◌⊎◌, inl, inr, ℕ, Bool, true, false, cond, nat_eq, nat_le}
use Rattle.std.proofs.Common.{◌&&◌, suc, List, [], ◌∷◌, ◌++◌, length, take, drop, set, get_or, None}
use Rattle.std.proofs.Common.{max, arith, sym, ◌∙◌, ap, subst, refl}
use mathlib.Core.List.{append_assoc}
use Rattle.std.specs.List.{list_all}
use Rattle.std.proofs.Math.Seq.{drop-cons}
use Rattle.std.proofs.lemmas.List.{take_more_set}
use Rattle.std.proofs.lemmas.Bool.Decides.{nat_tests, leb_tells}
use Rattle.std.proofs.Math.Bool.{and-false, and_assoc}
use Rattle.share_model.specs.text.Lines.{is_hex_digit, hex_value, is_pairs, from_pairs, payload_of}
use Rattle.share_text.specs.Digits.{value_or_255, DecodedUpTo, DecodesUpTo}

-- Pairs of digits

pub is_pairs-even : (w : List ℕ) → length w % 2 ≡ 0 → is_pairs w ≡ list_all is_hex_digit w
is_pairs-even [] e = refl
is_pairs-even (c ∷ []) e = absurd (omega arith)
is_pairs-even (c ∷ d ∷ cs) e =
    let even : length cs % 2 ≡ 0 = omega arith in
    rw (is_pairs-even cs even) (and_assoc (is_hex_digit c) (is_hex_digit d) (list_all is_hex_digit cs))

pub is_pairs-odd : (w : List ℕ) → length w % 2 ≡ 1 → is_pairs w ≡ false
is_pairs-odd [] e = absurd (omega arith)
is_pairs-odd (c ∷ []) e = refl
is_pairs-odd (c ∷ d ∷ cs) e =
    let odd : length cs % 2 ≡ 1 = omega arith in
    rw (is_pairs-odd cs odd) (and-false _)

-- at least two digits, and an even number of them
abbrev pub has_pairs : List ℕ → Bool
has_pairs w = nat_le 2 (length w) && nat_eq (length w % 2) 0

pub length_of_pairs : (w : List ℕ) → has_pairs w ≡ true → (2 ≤ length w) × (length w % 2 ≡ 0)
length_of_pairs w e = (grind (arith, nat_tests), grind (arith, nat_tests))

short_or_odd : (w : List ℕ) → has_pairs w ≡ false → (length w < 2) ⊎ (length w % 2 ≡ 1)
short_or_odd w e = grind (arith, nat_tests)

not_pairs : (w : List ℕ) → (length w < 2) ⊎ (length w % 2 ≡ 1) → (nat_le 2 (length w) && is_pairs w) ≡ false
not_pairs w (inl short) = let t : nat_le 2 (length w) ≡ false = grind (arith, nat_tests) in rw t refl
not_pairs w (inr odd) = rw (is_pairs-odd w odd) (and-false (nat_le 2 (length w)))

pub no_payload : (w : List ℕ) → has_pairs w ≡ false → (nat_le 2 (length w) && is_pairs w) ≡ false
no_payload w e = not_pairs w (short_or_odd w e)

pub not_decoded : (w : List ℕ) → has_pairs w ≡ false → payload_of w ≡ None
not_decoded w e = rw (no_payload w e) refl

-- the two digits at a place, and those after them
two_digits : (w : List ℕ) (place : ℕ) → 2 * place + 1 < length w → drop (2 * place) w ≡ get_or w (2 * place) 0
    ∷ get_or w (2 * place + 1) 0 ∷ drop (2 * (place + 1)) w
two_digits w place h =
    let a : suc (2 * place) ≡ 2 * place + 1 = omega arith in
    let b : suc (2 * place + 1) ≡ 2 * (place + 1) = omega arith in
    drop-cons w (2 * place) 0 (omega arith)
    ∙ ap (λ n. get_or w (2 * place) 0 ∷ drop n w) a
    ∙ ap (λ r. get_or w (2 * place) 0 ∷ r)
    (drop-cons w (2 * place + 1) 0 h ∙ ap (λ n. get_or w (2 * place + 1) 0 ∷ drop n w) b)

digit_by : (c : ℕ) (b : Bool) → is_hex_digit c ≡ b → cond b (hex_value c) 255 < 16 → (is_hex_digit c ≡ true)
    × (cond b (hex_value c) 255 ≡ hex_value c)
digit_by c true e h = (e, refl)
digit_by c false e h = absurd (omega arith)

good_digit : (c v : ℕ) → v ≡ value_or_255 c → v < 16 → (is_hex_digit c ≡ true) × (v ≡ hex_value c)
good_digit c v e h = let p = digit_by c _ refl (rw (← e) h) in (p.0, e ∙ p.1)

bad_by : (c : ℕ) (b : Bool) → is_hex_digit c ≡ b → 15 < cond b (hex_value c) 255 → is_hex_digit c ≡ false
bad_by c true e h = let small : hex_value c < 16 = grind (arith, nat_tests) in absurd (omega arith)
bad_by c false e h = e

bad_digit : (c v : ℕ) → v ≡ value_or_255 c → 15 < v → is_hex_digit c ≡ false
bad_digit c v e h = bad_by c _ refl (rw (← e) h)

store : (w bytes : List ℕ) (place value : ℕ) → place < length bytes → take place bytes ++ (value ∷ from_pairs w)
    ≡ take (place + 1) (set bytes place value) ++ from_pairs w
store w bytes place value room =
    rw (take_more_set bytes place value room) (sym (append_assoc (take place bytes) (value ∷ []) (from_pairs w)))

pub decoded_more : (w bytes : List ℕ) (place high low : ℕ) → DecodedUpTo w bytes place → 2 * place + 1 < length w
    → place < length bytes → high ≡ value_or_255 (get_or w (2 * place) 0) → low
    ≡ value_or_255 (get_or w (2 * place + 1) 0) → high < 16 → low < 16
    → DecodedUpTo w (set bytes place (high * 16 + low)) (place + 1)
decoded_more w bytes place high low so h room eh el hh hl =
    let p = good_digit (get_or w (2 * place) 0) high eh hh in
    let q = good_digit (get_or w (2 * place + 1) 0) low el hl in
    let two = two_digits w place h in
    let value : hex_value (get_or w (2 * place) 0) * 16 + hex_value (get_or w (2 * place + 1) 0)
    ≡ high * 16 + low = rw (p.1, q.1) refl in
    let good : is_pairs (get_or w (2 * place) 0 ∷ get_or w (2 * place + 1) 0 ∷ drop (2 * (place + 1)) w)
    ≡ is_pairs (drop (2 * (place + 1)) w) = rw (p.0, q.0) refl in record {
      pairs = so.pairs ∙ ap is_pairs two ∙ good;
      decoded = so.decoded ∙ ap (λ r. take place bytes ++ from_pairs r) two
          ∙ ap (λ n. take place bytes ++ (n ∷ from_pairs (drop (2 * (place + 1)) w))) value
          ∙ store (drop (2 * (place + 1)) w) bytes place (high * 16 + low) room;
    }

pub bad_pair : (w bytes : List ℕ) (place high low : ℕ) → DecodedUpTo w bytes place → 2 * place + 1 < length w → high
    ≡ value_or_255 (get_or w (2 * place) 0) → low ≡ value_or_255 (get_or w (2 * place + 1) 0) → (15 < high) ⊎ (15 < low)
    → payload_of w ≡ None
bad_pair w bytes place high low so h eh el (inl bad) =
    let none : is_pairs w ≡ false = so.pairs ∙ ap is_pairs (two_digits w place h)
    ∙ rw (bad_digit (get_or w (2 * place) 0) high eh bad) refl in
    rw (none, and-false (nat_le 2 (length w))) refl
bad_pair w bytes place high low so h eh el (inr bad) =
    let none : is_pairs w ≡ false = so.pairs ∙ ap is_pairs (two_digits w place h)
    ∙ rw (bad_digit (get_or w (2 * place + 1) 0) low el bad, and-false (is_hex_digit (get_or w (2 * place) 0)))
    refl in
    rw (none, and-false (nat_le 2 (length w))) refl

bad_by_greatest : (w bytes : List ℕ) (place high low greatest : ℕ) → DecodesUpTo w bytes place greatest
    → 2 * place + 1 < length w → high ≡ value_or_255 (get_or w (2 * place) 0)
    → low ≡ value_or_255 (get_or w (2 * place + 1) 0) → 15 < max (max high low) greatest
    → ((15 < greatest) ⊎ (greatest < 16)) → ((15 < high) ⊎ (high < 16)) → payload_of w ≡ None
bad_by_greatest w bytes place high low greatest so h eh el above (inl bad) _ = so.bad bad
bad_by_greatest w bytes place high low greatest so h eh el above (inr small) (inl bad) =
    bad_pair w bytes place high low (so.good small) h eh el (inl bad)
bad_by_greatest w bytes place high low greatest so h eh el above (inr small) (inr few) =
    bad_pair w bytes place high low (so.good small) h eh el (inr (omega arith))

tells_few : (n : ℕ) → (15 < n) ⊎ (n < 16)
tells_few n = elim (leb_tells n 15) [ inl p ↦ inr (omega (arith, p.1)) | inr p ↦ inl (omega (arith, p.1)) ]

pub decodes_more : (w bytes : List ℕ) (place high low greatest next value : ℕ) → DecodesUpTo w bytes place greatest
    → 2 * place + 1 < length w → place < length bytes → high ≡ value_or_255 (get_or w (2 * place) 0)
    → low ≡ value_or_255 (get_or w (2 * place + 1) 0) → next ≡ max (max high low) greatest
    → value ≡ (high * 16 % 256 + low) % 256 → DecodesUpTo w (set bytes place value) (place + 1) next
decodes_more w bytes place high low greatest next value so h room eh el is stored = record {
  good = λ few.
      let hh : high < 16 = omega arith in
      let hl : low < 16 = omega arith in
      let hg : greatest < 16 = omega arith in
      let same : high * 16 + low ≡ value = omega arith in
      subst (λ v. DecodedUpTo w (set bytes place v) (place + 1)) same
      (decoded_more w bytes place high low (so.good hg) h room eh el hh hl);
  bad = λ above.
      let more : 15 < max (max high low) greatest = omega arith in
      bad_by_greatest w bytes place high low greatest so h eh el more (tells_few greatest) (tells_few high);
}

pub even_payload : (w : List ℕ) (r : Bool) → r ≡ list_all is_hex_digit w → has_pairs w ≡ true → r
    ≡ (nat_le 2 (length w) && is_pairs w)
even_payload w r e h =
    let p = length_of_pairs w h in
    let t : nat_le 2 (length w) ≡ true = grind (arith, nat_tests) in
    rw (t, is_pairs-even w p.1) e
