use Rattle.std.proofs.Common.{◌≡◌, ◌≤◌, ◌+◌, ◌-◌, ◌++◌, ◌∙◌, ℕ, List, length, take, drop, replicate, sym, ap, arith}
use Rattle.std.proofs.lemmas.List.{take_all, length-drop, take-append-drop, drop-drop, append-nil}
use Rattle.std.proofs.Math.ListN.{drop_of_length-le}
use Rattle.share_base.specs.Body.{framed_bytes}
use Rattle.share_base.proofs.BodyLemmas.{room_alone, zeros_alone, bytes_alone}
use Rattle.share_base.proofs.parcel.Body.framed_in.Goals as goal

-- the bytes from the first stamped one on are those that are stamped and the payload
stamped_and_payload : (s : ℕ) (bytes : List ℕ) → s ≤ 17
    → take (length bytes - (17 - s)) (drop (17 - s) bytes) ≡ take s (drop (17 - s) bytes) ++ drop 17 bytes
stamped_and_payload s bytes few =
    let room : 17 - s + s ≡ 17 = omega (arith, few) in
    take_all (length bytes - (17 - s)) (drop (17 - s) bytes) (rw (length-drop (17 - s) bytes) (omega arith))
    ∙ sym (take-append-drop s (drop (17 - s) bytes))
    ∙ ap (λ rest. take s (drop (17 - s) bytes) ++ rest)
    (drop-drop s (17 - s) bytes ∙ ap (λ n. drop n bytes) room)

-- from there on, the room alone has what is stamped
stamped_alone : (s : ℕ) (bytes : List ℕ) → s ≤ 17 → length bytes ≡ 17
    → take (length bytes - (17 - s)) (drop (17 - s) bytes) ≡ take s (drop (17 - s) bytes)
stamped_alone s bytes few alone =
    stamped_and_payload s bytes few
    ∙ ap (λ (rest : List ℕ). take s (drop (17 - s) bytes) ++ rest)
    (drop_of_length-le bytes {i = 17} (omega (arith, alone)))
    ∙ append-nil (take s (drop (17 - s) bytes))

pub returns-then-self-gt0 : goal.returns-then-self-gt0
returns-then-self-gt0 c =
    let bytes = c.self.inside.bytes.items in
    let zeros = c.self.inside.zeros in
    let stamped = c.self.inside.stamped in
    let alone = room_alone zeros (length bytes) (omega (arith, c.if-self-gt0.true)) c.self.invariant.3 in
    c.show.ensures
    ∙ rw (c.as_slice.ensures)
    (ap (λ (front : List ℕ). front ++ replicate zeros 0) (stamped_alone stamped bytes c.self.invariant.0 alone)
    ∙ ap (λ (rest : List ℕ). take stamped (drop (17 - stamped) bytes) ++ rest) (sym (zeros_alone zeros bytes alone))
    ∙ ap framed_bytes c.self.view_is)

pub returns-else-self-gt0 : goal.returns-else-self-gt0
returns-else-self-gt0 c =
    let bytes = c.self.inside.bytes.items in
    let zeros = c.self.inside.zeros in
    let stamped = c.self.inside.stamped in
    rw (c.as_slice.ensures)
    (stamped_and_payload stamped bytes c.self.invariant.0
    ∙ ap (λ (rest : List ℕ). take stamped (drop (17 - stamped) bytes) ++ rest)
    (sym (bytes_alone zeros bytes (omega (arith, c.if-self-gt0.false))))
    ∙ ap framed_bytes c.self.view_is)
