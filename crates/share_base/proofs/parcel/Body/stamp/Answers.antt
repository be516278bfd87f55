use Rattle.std.proofs.Common.{◌≡◌, ◌≤◌, ◌-◌, ◌++◌, ◌∙◌, ℕ, List, length, take, drop, replicate, sym, ap}
use Rattle.std.proofs.Math.Seq.{take-append_seam}
use Rattle.std.specs.List.{refill}
use Rattle.share_base.specs.Body.{BodyView}
use Rattle.share_base.proofs.BodyLemmas.{header_short, has_room, written, as_long, seen}
use Rattle.share_base.proofs.parcel.Body.stamp.Goals as goal

-- a list that is written over by one as long is that one
refilled : (bytes written : List ℕ) → length written ≡ length bytes → refill (length bytes) bytes written ≡ written
refilled bytes written long =
    ap (λ n. take n (written ++ drop (length written) bytes)) (sym long)
    ∙ take-append_seam written (drop (length written) bytes)

pub write_header-requires-clause-few : goal.write_header-requires-clause-few
write_header-requires-clause-few c = header_short (length c.args.header.now) c.requires

pub returns : goal.returns
returns c =
    let bytes = c.self.inside.bytes.items in
    let zeros = c.self.inside.zeros in
    let header = c.args.header.now in
    let few = header_short (length header) c.requires in
    let room : 17 ≤ length bytes = has_room zeros (length bytes) c.self.invariant.1 c.self.invariant.3 in
    let whole : c.write_header.new.bytes ≡ written header bytes few room =
    c.write_header.ensures
    ∙ ap (λ (bs : List ℕ). take (17 - length header) bs ++ (header ++ drop 17 bs)) c.as_mut_slice.ensures.value in
    let after : refill (length bytes) bytes c.write_header.new.bytes ≡ written header bytes few room =
    rw whole (refilled bytes (written header bytes few room) (as_long header bytes few room)) in
    ap
    (λ (bs : List ℕ). record {
      stamped = take (length header) (drop (17 - length header) bs);
      payload = replicate zeros 0 ++ drop 17 bs;
    })
    after
    ∙ seen header bytes few room zeros
    ∙ ap (λ (body : BodyView). record { stamped = header; payload = body.payload }) c.self.view_is
