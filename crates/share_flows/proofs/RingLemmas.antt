-- The ring of the handle of a flow's buffer.
use Rattle.std.proofs.Common.{◌≡◌, ◌<◌, ◌^◌, ◌∙◌, ℕ, false, true, List, ◌∷◌, get_or, set}
use Rattle.std.proofs.Common.{Option, None, Some, IfSome, MatchOption, option_map, option_and_then}
use Rattle.std.proofs.Common.{Result, Ok, Err, IfOk, IfErr, sym, ap, subst}
use Rattle.std.proofs.lemmas.List.{set-get_or}
use Rattle.share_flows.specs.Stamps.{BufferView, with_stamp, stamp_in}
use Rattle.share_base.specs.Body.{BodyView}
use Rattle.share_model.specs.link.Frame.{PacketOf}
use Rattle.share_model.proofs.lemmas.link.BufferLemmas.{head_of-flow}
use Rattle.share_model.specs.link.Buffers.{is_buffer_of, buffer_of, with_packet, without_head, push_in, pop_in}
use Rattle.share_model.specs.link.Buffers.{is_full, head_in, head_of_buffer, head_of, is_some_packet}
use Rattle.share_model.specs.link.Buffers.{has_packet, is_busy}
use Rattle.share_flows.specs.declared.buffers.BufferHandle.{BufferHandle}
use Rattle.share_flows.specs.BufferHandles.{Stands}
use Rattle.share_flows.proofs.FirstItemLemmas.{changed, found}

-- the rings rs are the buffers bs, and r is the ring of the handle
module _ (rs bs : List BufferView) (handle : BufferHandle) (r : BufferView) (same : rs ≡ bs) (stands : Stands bs handle)
    (read : r ≡ get_or rs handle.at r) where
  pub standing : buffer_of bs handle.flow ≡ Some r
  standing =
      found (is_buffer_of handle.flow) bs handle.at r stands (subst (λ xs. r ≡ get_or xs handle.at r) same read)

  pub standing_of : (f : ℕ) → handle.flow ≡ f → buffer_of bs f ≡ Some r
  standing_of f is = ap (buffer_of bs) (sym is) ∙ standing

  own : Stands rs handle
  own = subst (λ xs. Stands xs handle) (sym same) stands

  pub headed : head_of bs handle.flow ≡ head_of_buffer r
  headed = ap (option_and_then head_of_buffer) standing

  -- the head packet, by the number of the flow
  pub head_read : {H : Type 0} (o : Option H) (seq : H → ℕ) (payload : H → BodyView)
      → MatchOption o (head_of_buffer r ≡ None) (λ h. head_of_buffer r
      ≡ Some (record { flow = r.flow; seq = seq h; payload = payload h }))
      → MatchOption o (head_of bs handle.flow ≡ None) (λ h. head_of bs handle.flow
      ≡ Some (record { flow = handle.flow; seq = seq h; payload = payload h }))
  head_read None seq payload is = headed ∙ is
  head_read (Some h) seq payload is =
      let there : head_of bs handle.flow ≡ Some (record { flow = r.flow; seq = seq h; payload = payload h }) =
      headed ∙ is in
      there ∙ ap (λ (f : ℕ). Some (record { flow = f; seq = seq h; payload = payload h }))
      (head_of-flow bs handle.flow _ there)

  pub some_packet : is_busy bs handle.flow ≡ true → is_some_packet r.packets ≡ true
  some_packet busy = sym (ap has_packet standing) ∙ busy

  -- a packet that was the first is the head packet's payload
  pub head_popped : (p : BodyView) (ps : List BodyView) → r.packets ≡ p ∷ ps
      → option_map (λ (h : PacketOf BodyView). h.payload) (head_of bs handle.flow) ≡ Some p
  head_popped p ps first = ap (option_map (λ (h : PacketOf BodyView). h.payload)) (headed ∙ ap (head_in r) first)

  pub after_pop : (new : BufferView) → new ≡ without_head r → set rs handle.at new ≡ pop_in bs handle.flow
  after_pop new is =
      changed (is_buffer_of handle.flow) without_head rs handle.at r new own read is
      ∙ ap (λ xs. pop_in xs handle.flow) same

  pub after_stamp : (new : BufferView) (header : List ℕ) → new ≡ with_stamp header r
      → set rs handle.at new ≡ stamp_in bs handle.flow header
  after_stamp new header is =
      changed (is_buffer_of handle.flow) (with_stamp header) rs handle.at r new own read is
      ∙ ap (λ xs. stamp_in xs handle.flow header) same

  pub may_push : IfSome (buffer_of bs handle.flow) (λ b. is_full b ≡ false → b.next < 2 ^ 32)
      → is_full r ≡ false → r.next < 2 ^ 32
  may_push may = subst (λ (o : Option BufferView). IfSome o (λ b. is_full b ≡ false → b.next < 2 ^ 32)) standing may

  pub after_push : (o : Result ℕ BodyView) (new : BufferView) (body : BodyView)
      → IfOk o (λ n. (n ≡ r.next) × (is_full r ≡ false) × (new ≡ with_packet body r))
      → IfOk o (λ n. IfSome (buffer_of bs handle.flow) (λ b. (n ≡ b.next) × (is_full b ≡ false))
      × (set rs handle.at new ≡ push_in bs handle.flow body))
  after_push (Ok n) new body is = (
    subst (λ (o : Option BufferView). IfSome o (λ b. (n ≡ b.next) × (is_full b ≡ false))) (sym standing) (is.0, is.1),
    changed (is_buffer_of handle.flow) (with_packet body) rs handle.at r new own read is.2
        ∙ ap (λ xs. push_in xs handle.flow body) same,
  )
  after_push (Err back) new body is = tt

  pub after_full : (o : Result ℕ BodyView) (new : BufferView) (body : BodyView)
      → IfErr o (λ back. (back ≡ body) × (is_full r ≡ true) × (new ≡ r))
      → IfErr o (λ back. (back ≡ body) × IfSome (buffer_of bs handle.flow) (λ b. is_full b ≡ true)
      × (set rs handle.at new ≡ bs))
  after_full (Ok n) new body is = tt
  after_full (Err back) new body is = (
    is.0,
    subst (λ (o : Option BufferView). IfSome o (λ b. is_full b ≡ true)) (sym standing) is.1,
    ap (set rs handle.at) (is.2 ∙ read) ∙ set-get_or rs handle.at r ∙ same,
  )
