use Rattle.std.proofs.Common.{◌≡◌, Option, IfSome, subst, sym}
use Rattle.share_flows.specs.Stamps.{BufferView}
use Rattle.share_flows.proofs.RingLemmas.{standing_of}
use Rattle.share_flows.proofs.buffers.Buffers.next_number.Goals as goal

pub returns : goal.returns
returns c =
    let is = standing_of _ _ c.handle-handle.result c.index.result.now c.self.view_is c.handle-handle.ensures.stands
    c.index.ensures _ c.handle-handle.ensures.flow in
    subst (λ (o : Option BufferView). IfSome o (λ b. c.next_number.result ≡ b.next)) (sym is) c.next_number.ensures
