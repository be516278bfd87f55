use Rattle.std.proofs.Common.{◌∙◌, ap}
use Rattle.share_model.specs.link.Buffers.{buffer_of}
use Rattle.share_flows.proofs.DistinctFlowLemmas.{apart-open_in}
use Rattle.share_flows.proofs.buffers.Buffers.open.Goals as goal

pub invariant_of-self-2 : goal.invariant_of-self-2
invariant_of-self-2 c =
    let none = ap (λ bs. buffer_of bs c.args.flow) c.self.view_is ∙ c.requires in
    rw (c.push_reserved.ensures.items, c.in_ok-ring.ensures, c.reserve.ensures.items)
    (apart-open_in c.self.inside.rings.items c.args.flow c.args.limit none c.self.invariant)
