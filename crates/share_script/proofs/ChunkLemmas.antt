-- The lines of a chunk: pieces up to a line feed, and the piece after the last.
use Rattle.std.proofs.Common.{◌≡◌, ◌<◌, ◌≤◌, ℕ, true, List, [], ◌∷◌, ◌++◌, ◌+◌, ◌-◌, length, take, drop, get_or, None}
use Rattle.std.proofs.Common.{Some, arith, sym, ◌∙◌, ap, subst}
use Rattle.std.proofs.Math.Seq.{take-add}
use Rattle.memchr.specs.Find.{IsFirstByte}
use Rattle.std.proofs.lemmas.List.{take_all, take_more, length-drop, length-take, drop-take, drop-drop}
use Rattle.std.proofs.lemmas.Bool.Decides.{nat_tests}
use Rattle.share_model.specs.text.Talk.{is_feed}
use Rattle.share_script.specs.Script.{NoFeed}
use Rattle.share_text.proofs.WordLemmas.{passes_before, nowhere}

pub feed_byte : (b : ℕ) → is_feed b ≡ true → b ≡ 10
feed_byte b e = grind (arith, nat_tests)

pub piece_clean : (chunk : List ℕ) (at count : ℕ)
    → IsFirstByte is_feed (take (length chunk - at) (drop at chunk)) (Some count)
    → NoFeed (take (at + count - at) (drop at chunk))
piece_clean chunk at count first =
    let rest : take (length chunk - at) (drop at chunk)
    ≡ drop at chunk = take_all (length chunk - at) (drop at chunk) (omega (arith, length-drop at chunk)) in
    let P : List ℕ → Type 0 = λ r. IsFirstByte is_feed r (Some count) in
    let h = subst P rest first in
    let n : at + count - at ≡ count = omega arith in
    let Q : ℕ → Type 0 = λ m. NoFeed (take m (drop at chunk)) in
    subst Q (sym n) (passes_before is_feed (drop at chunk) count h)

pub piece_whole : (chunk : List ℕ) (at count : ℕ) → at ≤ length chunk
    → IsFirstByte is_feed (take (length chunk - at) (drop at chunk)) (Some count) → (at + (count + 1) ≤ length chunk)
    × (take at chunk ++ (take (at + count - at) (drop at chunk) ++ 10 ∷ []) ≡ take (at + (count + 1)) chunk)
piece_whole chunk at count few first =
    let rest : take (length chunk - at) (drop at chunk)
    ≡ drop at chunk = take_all (length chunk - at) (drop at chunk) (omega (arith, length-drop at chunk)) in
    let P : List ℕ → Type 0 = λ r. IsFirstByte is_feed r (Some count) in
    let h = subst P rest first in
    let n : at + count - at ≡ count = omega arith in
    let short : count < length (drop at chunk) = h.0.high in
    let feed : get_or (drop at chunk) count 0 ≡ 10 = feed_byte _ h.1 in
    let line : take (at + count - at) (drop at chunk) ++ 10 ∷ [] ≡ take (count + 1) (drop at chunk) =
    ap (λ m. take m (drop at chunk) ++ 10 ∷ []) n ∙ ap (λ b. take count (drop at chunk) ++ b ∷ []) (sym feed)
    ∙ sym (take_more (drop at chunk) count 0 short) in
    (omega (arith, length-drop at chunk), ap (λ r. take at chunk ++ r) line ∙ sym (take-add at (count + 1) chunk))

pub last_clean : (chunk : List ℕ) (at : ℕ) → IsFirstByte is_feed (take (length chunk - at) (drop at chunk)) None
    → NoFeed (take (length chunk - at) (drop at chunk))
last_clean chunk at none = nowhere is_feed _ none

pub last_whole : (chunk : List ℕ) (at : ℕ) → at ≤ length chunk → take at chunk
    ++ take (length chunk - at) (drop at chunk) ≡ chunk
last_whole chunk at few = sym (take-add at (length chunk - at) chunk)
    ∙ (let n : at + (length chunk - at) ≡ length chunk = omega arith in ap (λ m. take m chunk) n
    ∙ take_all (length chunk) chunk (omega arith))

-- A chunk in its buffer

pub passed : (buffer : List ℕ) (at end count : ℕ) → at ≤ end → end ≤ length buffer
    → count ≤ length (take (end - at) (drop at buffer))
    → take (end - (at + count)) (drop (at + count) buffer) ≡ drop count (take (end - at) (drop at buffer))
passed buffer at end count low high few =
    let more : end - at ≡ count + (end - (at + count)) =
    omega (arith, few, length-take (end - at) (drop at buffer)) in
    sym (ap (λ n. drop count (take n (drop at buffer))) more
    ∙ drop-take count (end - (at + count)) (drop at buffer)
    ∙ ap (λ r. take (end - (at + count)) r) (drop-drop count at buffer))
