-- Bytes that are spelled in pieces.
use Rattle.std.proofs.Common.{◌≡◌, ◌<◌, ◌≤◌, ◌+◌, ◌-◌, ◌*◌, ℕ, List, ◌++◌, ◌∙◌, ap, sym, subst, arith}
use Rattle.std.proofs.Common.{length, take, drop, append_assoc}
use Rattle.std.proofs.Math.Seq.{take-add}
use Rattle.std.proofs.lemmas.List.{length-append, length-drop, length-take-le}
use Rattle.share_model.specs.text.Lines.{hex}
use Rattle.share_model.proofs.lemmas.text.WordLemmas.{length-hex}
use Rattle.share_text.proofs.HexLemmas.{hex_append}
use Rattle.share_book.specs.Texts.{TextView, text_room, with_bytes}

pub hex-piece : (bytes : List ℕ) (at count : ℕ)
    → hex (take at bytes) ++ hex (take count (drop at bytes)) ≡ hex (take (at + count) bytes)
hex-piece bytes at count =
    sym (hex_append (take at bytes) (take count (drop at bytes))) ∙ ap hex (sym (take-add at count bytes))

pub with-piece : (t : TextView) (bytes : List ℕ) (at count : ℕ)
    → with_bytes (with_bytes t (hex (take at bytes))) (hex (take (at + count - at) (drop at bytes)))
    ≡ with_bytes t (hex (take (at + count) bytes))
with-piece t bytes at count =
    let size : at + count - at ≡ count = omega arith in
    ap (λ n. with_bytes (with_bytes t (hex (take at bytes))) (hex (take n (drop at bytes)))) size
    ∙ ap (λ b. record t { bytes = b })
    (append_assoc t.bytes (hex (take at bytes)) (hex (take count (drop at bytes)))
    ∙ ap (λ d. t.bytes ++ d) (hex-piece bytes at count))

-- a piece has room if all the digits have
pub piece-room : (t : TextView) (bytes : List ℕ) (at count : ℕ) → at + count ≤ length bytes
    → 2 * length bytes ≤ text_room t → 2 * count ≤ text_room (with_bytes t (hex (take at bytes)))
piece-room t bytes at count inside room =
    let all = length-append t.bytes (hex (take at bytes)) in
    let digits = length-hex (take at bytes) in
    let first = length-take-le at bytes (omega (arith, inside)) in
    omega (arith, all, digits, first, inside, room)

piece-length : (bytes : List ℕ) (at count : ℕ) → at + count ≤ length bytes
    → length (take (at + count - at) (drop at bytes)) ≡ count
piece-length bytes at count inside =
    let rest = length-drop at bytes in
    let first = length-take-le (at + count - at) (drop at bytes) (omega (arith, rest, inside)) in
    omega (arith, first)

-- a piece was spelled at the front of a buffer
pub piece-digits : (bytes text : List ℕ) (at count : ℕ) → at + count ≤ length bytes
    → take (2 * length (take (at + count - at) (drop at bytes))) text ≡ hex (take (at + count - at) (drop at bytes))
    → take (2 * count) text ≡ hex (take (at + count - at) (drop at bytes))
piece-digits bytes text at count inside spelled =
    ap (λ n. take (2 * n) text) (sym (piece-length bytes at count inside)) ∙ spelled

pub piece-long : (bytes text : List ℕ) (at count : ℕ) → at + count ≤ length bytes
    → take (2 * length (take (at + count - at) (drop at bytes))) text ≡ hex (take (at + count - at) (drop at bytes))
    → length (take (2 * count) text) ≡ 2 * count
piece-long bytes text at count inside spelled =
    ap length (piece-digits bytes text at count inside spelled)
    ∙ length-hex (take (at + count - at) (drop at bytes))
    ∙ ap (λ n. 2 * n) (piece-length bytes at count inside)

-- a line feed has room after two pieces of a line that has room as a whole
pub feed-room : (t u v : TextView) (head bytes : List ℕ) → u ≡ with_bytes t head → v ≡ with_bytes u (hex bytes)
    → length head + 2 * length bytes < text_room t → 1 ≤ text_room v
feed-room t u v head bytes first second few =
    let one = length-append t.bytes head in
    let two = length-append (t.bytes ++ head) (hex bytes) in
    let digits = length-hex bytes in
    let is : v ≡ with_bytes (with_bytes t head) (hex bytes) = second ∙ ap (λ u. with_bytes u (hex bytes)) first in
    subst (λ v. 1 ≤ text_room v) (sym is) (omega (arith, one, two, digits, few))
