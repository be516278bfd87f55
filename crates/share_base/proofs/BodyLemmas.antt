-- The room of a body and what is stamped in it, and its payload: bytes after the room, or a count of zeros.
use Rattle.std.proofs.Common.{◌≡◌, ◌⊎◌, ◌≤◌, ◌<◌, ◌+◌, ◌-◌, ◌++◌, ◌∙◌, ℕ, List, length, take, drop, replicate, inl, inr}
use Rattle.std.proofs.Common.{arith, sym, ap, refl}
use Rattle.std.proofs.lemmas.List.{length-append, length-take, length-drop, drop-drop, append-nil, take-replicate}
use Rattle.std.proofs.Math.ListN.{drop_of_length-le}
use Rattle.std.proofs.Math.Seq.{take-append_seam, drop-append_seam, take-append-add}
use Rattle.share_base.specs.Body.{BodyView, IsHeaderLength}

pub header_short : (n : ℕ) → IsHeaderLength n → n ≤ 17
header_short n (inl twelve) = omega arith
header_short n (inr seventeen) = omega arith

-- Bytes or zeros

pub room_alone : (many count : ℕ) → 0 < many → (many ≡ 0) ⊎ (count ≡ 17) → count ≡ 17
room_alone many count some (inl none) = absurd (omega (arith, some, none))
room_alone many count some (inr alone) = alone

pub has_room : (many count : ℕ) → 18 ≤ many + count → (many ≡ 0) ⊎ (count ≡ 17) → 17 ≤ count
has_room many count some (inl none) = omega (arith, some, none)
has_room many count some (inr alone) = omega (arith, alone)

pub zeros_alone : (many : ℕ) (bytes : List ℕ) → length bytes ≡ 17
    → replicate many 0 ++ drop 17 bytes ≡ replicate many 0
zeros_alone many bytes alone =
    ap (λ (rest : List ℕ). replicate many 0 ++ rest) (drop_of_length-le bytes {i = 17} (omega (arith, alone)))
    ∙ append-nil (replicate many 0)

pub bytes_alone : (many : ℕ) (bytes : List ℕ) → many ≡ 0 → replicate many 0 ++ drop 17 bytes ≡ drop 17 bytes
bytes_alone many bytes none = ap (λ (n : ℕ). replicate n 0 ++ drop 17 bytes) none

-- a body whose room ends with a header
module _ (header bytes : List ℕ) (few : length header ≤ 17) (room : 17 ≤ length bytes) where
  abbrev front : List ℕ
  front = take (17 - length header) bytes

  abbrev pub written : List ℕ
  written = front ++ (header ++ drop 17 bytes)

  length-front : length front ≡ 17 - length header
  length-front = omega (arith, length-take (17 - length header) bytes)

  pub as_long : length written ≡ length bytes
  as_long =
      omega (
        arith,
        length-append front (header ++ drop 17 bytes),
        length-append header (drop 17 bytes),
        length-drop 17 bytes,
        length-front,
      )

  behind_front : drop (17 - length header) written ≡ header ++ drop 17 bytes
  behind_front = ap (λ n. drop n written) (sym length-front) ∙ drop-append_seam front (header ++ drop 17 bytes)

  stamped_is : take (length header) (drop (17 - length header) written) ≡ header
  stamped_is = ap (take (length header)) behind_front ∙ take-append_seam header (drop 17 bytes)

  pub payload_is : drop 17 written ≡ drop 17 bytes
  payload_is =
      let all : 17 - length header + length header ≡ 17 = omega (arith, few) in
      ap (λ n. drop n written) (sym all)
      ∙ (sym (drop-drop (length header) (17 - length header) written)
      ∙ (ap (drop (length header)) behind_front ∙ drop-append_seam header (drop 17 bytes)))

  pub seen : (many : ℕ) → ◌≡◌ {A = BodyView}
      (record {
        stamped = take (length header) (drop (17 - length header) written);
        payload = replicate many 0 ++ drop 17 written;
      })
      (record { stamped = header; payload = replicate many 0 ++ drop 17 bytes })
  seen many = rw (stamped_is, payload_is) refl

  -- a header and zeros are shown, of a frame that has as many zeros as the longest payload
  pub shown : (count : ℕ) → count ≤ 9000 → drop 17 bytes ≡ replicate 9000 0
      → take (17 + count - (17 - length header)) (drop (17 - length header) written) ≡ header ++ replicate count 0
  shown count all behind =
      let long : 17 + count - (17 - length header) ≡ length header + count = omega (arith, few) in
      ap (λ n. take n (drop (17 - length header) written)) long
      ∙ ap (take (length header + count)) behind_front
      ∙ take-append-add header (drop 17 bytes) count
      ∙ ap (λ (rest : List ℕ). header ++ rest)
      (ap (take count) behind ∙ take-replicate count 9000 0 all)
