-- Values that a stamp leaves as they were.
use Rattle.std.proofs.Common.{◌≡◌, ℕ, List, [], ◌∷◌, map, refl, ap}
use Rattle.share_base.specs.Body.{BodyView}
use Rattle.share_model.specs.link.Buffers.{is_buffer_of, map_buffer, payload_of, payloads_in}
use Rattle.share_model.proofs.lemmas.lists.FirstItemLemmas.{map-change_first}
use Rattle.share_flows.specs.Stamps.{BufferView, first_stamped, with_stamp, stamp_in}

packets_payloads : (header : List ℕ) (ps : List BodyView) → map payload_of (first_stamped header ps) ≡ map payload_of ps
packets_payloads header [] = refl
packets_payloads header (p ∷ ps) = refl

-- the payloads in every buffer
pub stamped-payloads : (bs : List BufferView) (f : ℕ) (header : List ℕ)
    → payloads_in (stamp_in bs f header) ≡ payloads_in bs
stamped-payloads bs f header =
    map-change_first (map_buffer payload_of) (is_buffer_of f) (with_stamp header) buffer_payloads bs
  where
    buffer_payloads : (b : BufferView) → map_buffer payload_of (with_stamp header b) ≡ map_buffer payload_of b
    buffer_payloads b =
        ap (λ (ps : List (List ℕ)). record { flow = b.flow; limit = b.limit; next = b.next; packets = ps })
        (packets_payloads header b.packets)
