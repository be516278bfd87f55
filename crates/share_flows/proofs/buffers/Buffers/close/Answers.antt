use Rattle.std.proofs.Common.{◌∙◌, ap, sym, position}
use Rattle.share_model.specs.link.Buffers.{is_buffer_of, count_by, close_in}
use Rattle.share_flows.proofs.FirstItemLemmas.{taken}
use Rattle.share_flows.proofs.RingLemmas.{standing_of}
use Rattle.share_flows.proofs.DistinctFlowLemmas.{apart-remove}
use Rattle.share_flows.proofs.buffers.Buffers.close.Goals as goal

pub returns-clause-count : goal.returns-clause-count
returns-clause-count c =
    c.count.ensures.count
    ∙ ap count_by (sym (standing_of _ _ c.handle-handle.result c.remove-ring.result c.self.view_is
    c.handle-handle.ensures.stands c.remove-ring.ensures.value _ c.handle-handle.ensures.flow))

pub returns-clause-after : goal.returns-clause-after
returns-clause-after c =
    let handle = ap (position (is_buffer_of c.args.flow)) c.self.view_is
    ∙ ap (λ f. position (is_buffer_of f) c.args.self.now) (sym c.handle-handle.ensures.flow)
    ∙ c.handle-handle.ensures.stands in
    c.remove-ring.ensures.items
    ∙ (taken (is_buffer_of c.args.flow) _ c.handle-handle.result.at handle
    ∙ ap (λ bs. close_in bs c.args.flow) c.self.view_is)

pub invariant_of-self : goal.invariant_of-self
invariant_of-self c =
    rw (c.remove-ring.ensures.items)
    (apart-remove c.self.inside.rings.items c.handle-handle.result.at c.self.invariant)
