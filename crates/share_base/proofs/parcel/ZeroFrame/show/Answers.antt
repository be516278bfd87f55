use Rattle.std.proofs.Common.{◌≡◌, ◌≤◌, ◌-◌, ◌+◌, ◌∙◌, ℕ, List, length, take, drop, replicate, ap, arith}
use Rattle.std.proofs.lemmas.List.{length-drop, length-replicate}
use Rattle.share_base.proofs.BodyLemmas.{payload_is, shown}
use Rattle.share_base.proofs.parcel.ZeroFrame.show.Goals as goal

-- a frame with that many zeros after the room has the room
has_room : (bytes : List ℕ) → drop 17 bytes ≡ replicate 9000 0 → 17 ≤ length bytes
has_room bytes zeros =
    let behind : length (drop 17 bytes) ≡ 9000 = ap length zeros ∙ length-replicate {A = ℕ} 9000 0 in
    omega (arith, behind, length-drop 17 bytes)

pub invariant_of-self : goal.invariant_of-self
invariant_of-self c =
    let bytes = c.self.inside.bytes in
    ap (drop 17) c.write_header.ensures
    ∙ payload_is c.args.header.now bytes c.requires.few (has_room bytes c.self.invariant)
    ∙ c.self.invariant

pub returns : goal.returns
returns c =
    let bytes = c.self.inside.bytes in
    let header = c.args.header.now in
    let count = c.args.count in
    ap (λ (bs : List ℕ). take (17 + count - (17 - length header)) (drop (17 - length header) bs)) c.write_header.ensures
    ∙ shown header bytes c.requires.few (has_room bytes c.self.invariant) count c.requires.zeros c.self.invariant
