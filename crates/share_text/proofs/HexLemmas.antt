-- Bytes are spelled in hexadecimal, and printed in parts.
use Rattle.std.proofs.Common.{◌≡◌, ◌<◌, ◌≤◌, ◌+◌, ◌-◌, ◌*◌, ◌/◌, ◌%◌, ℕ, List, [], ◌∷◌, ◌++◌, length, take, drop, set}
use Rattle.std.proofs.Common.{get_or, Option, arith, sym, ◌∙◌, ap, subst, refl}
use mathlib.Core.List.{append_assoc}
use Rattle.std.specs.Io.KnownBytes.{Appends}
use Rattle.std.proofs.KnownBytes.{Appends-trans}
use Rattle.std.proofs.Math.Seq.{take-add}
use Rattle.std.proofs.lemmas.List.{length-set, take-append-drop, take_more}
use Rattle.std.proofs.lemmas.List.{take_more_set}
use Rattle.share_model.specs.text.Lines.{hex, hex_digit}
use Rattle.share_model.specs.io.Printing.{AppendsPart}
use Rattle.share_model.proofs.lemmas.io.PrintingLemmas.{part_after, part_longer}
use Rattle.std.proofs.KnownBytes.{Appends-nil}

-- Digits

pub hex_append : (xs ys : List ℕ) → hex (xs ++ ys) ≡ hex xs ++ hex ys
hex_append [] ys = refl
hex_append (x ∷ xs) ys = ap (λ r. hex_digit (x / 16) ∷ hex_digit (x % 16) ∷ r) (hex_append xs ys)

-- the digits of the first bytes stand at the front of the text
pub record SpelledUpTo (bytes text : List ℕ) (size place : ℕ) : Type 0 where
  pub kept : length text ≡ size
  pub digits : take (2 * place) text ≡ hex (take place bytes)

pub spelled_more : (bytes text : List ℕ) (size place high low : ℕ) → SpelledUpTo bytes text size place
    → place < length bytes → 2 * place + 1 < size → high ≡ hex_digit (get_or bytes place 0 / 16) → low
    ≡ hex_digit (get_or bytes place 0 % 16)
    → SpelledUpTo bytes (set (set text (2 * place) high) (2 * place + 1) low) size (place + 1)
spelled_more bytes text size place high low so inside room eh el =
    let kept = so.kept in
    let first = length-set text (2 * place) high in
    let second = length-set (set text (2 * place) high) (2 * place + 1) low in
    let two : 2 * (place + 1) ≡ 2 * place + 1 + 1 = omega arith in
    let written : take (2 * (place + 1)) (set (set text (2 * place) high) (2 * place + 1) low)
    ≡ (take (2 * place) text ++ high ∷ []) ++ low ∷ [] =
    ap (λ n. take n (set (set text (2 * place) high) (2 * place + 1) low)) two
    ∙ take_more_set (set text (2 * place) high) (2 * place + 1) low (omega arith)
    ∙ ap (λ r. r ++ low ∷ []) (take_more_set text (2 * place) high (omega arith)) in
    let spelled : hex (take (place + 1) bytes) ≡ hex (take place bytes) ++ high ∷ low ∷ [] =
    ap hex (take_more bytes place 0 inside) ∙ hex_append (take place bytes) (get_or bytes place 0 ∷ [])
    ∙ rw (← eh, ← el) refl in
    let joined : (take (2 * place) text ++ high ∷ []) ++ low ∷ [] ≡ hex (take place bytes) ++ high ∷ low ∷ [] =
    append_assoc (take (2 * place) text) (high ∷ []) (low ∷ []) ∙ ap (λ r. r ++ high ∷ low ∷ []) so.digits in
    record { kept = second ∙ first ∙ kept; digits = written ∙ joined ∙ sym spelled }

-- Pieces

-- the digits of the first bytes were appended
pub record HexUpTo (a now : Option (List ℕ)) (bytes : List ℕ) (at : ℕ) : Type 0 where
  pub few : at ≤ length bytes
  pub appends : Appends a now (hex (take at bytes))

-- the bytes up to the end of a piece, and those after it
in_parts : (bytes : List ℕ) (at count : ℕ) → hex bytes ≡ (hex (take at bytes) ++ hex (take count (drop at bytes)))
    ++ hex (drop (at + count) bytes)
in_parts bytes at count =
    ap hex (sym (take-append-drop (at + count) bytes))
    ∙ hex_append (take (at + count) bytes) (drop (at + count) bytes)
    ∙ ap (λ r. hex r ++ hex (drop (at + count) bytes)) (take-add at count bytes)
    ∙ ap (λ r. r ++ hex (drop (at + count) bytes)) (hex_append (take at bytes) (take count (drop at bytes)))

pub hex_none : (a : Option (List ℕ)) (bytes : List ℕ) → HexUpTo a a bytes 0
hex_none a bytes = record { few = omega arith; appends = Appends-nil a }

pub hex_more : (a before now : Option (List ℕ)) (bytes : List ℕ) (at count : ℕ) → HexUpTo a before bytes at
    → at + count ≤ length bytes → Appends before now (hex (take (at + count - at) (drop at bytes)))
    → HexUpTo a now bytes (at + count)
hex_more a before now bytes at count so few h =
    let size : at + count - at ≡ count = omega arith in
    let Q : ℕ → Type 0 = λ n. Appends before now (hex (take n (drop at bytes))) in
    let whole : hex (take at bytes) ++ hex (take count (drop at bytes)) ≡ hex (take (at + count) bytes) =
    sym (hex_append (take at bytes) (take count (drop at bytes))) ∙ ap hex (sym (take-add at count bytes)) in
    let P : List ℕ → Type 0 = λ r. Appends a now r in
    record { few = few; appends = subst P whole (Appends-trans a before now _ _ so.appends (subst Q size h)) }

pub hex_part : (a before now : Option (List ℕ)) (bytes : List ℕ) (at count : ℕ) → HexUpTo a before bytes at
    → AppendsPart before now (hex (take (at + count - at) (drop at bytes))) → AppendsPart a now (hex bytes)
hex_part a before now bytes at count so part =
    let size : at + count - at ≡ count = omega arith in
    let Q : ℕ → Type 0 = λ n. AppendsPart before now (hex (take n (drop at bytes))) in
    let P : List ℕ → Type 0 = λ r. AppendsPart a now r in
    subst P (sym (in_parts bytes at count))
    (part_longer a now _ (hex (drop (at + count) bytes))
    (part_after a before now _ _ so.appends (subst Q size part)))
