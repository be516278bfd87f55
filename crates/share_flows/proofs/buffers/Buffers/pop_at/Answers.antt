use Rattle.share_flows.proofs.RingLemmas.{some_packet, head_popped, after_pop}
use Rattle.std.proofs.Common.{◌∙◌, ap}
use Rattle.share_flows.specs.Stamps.{BufferView}
use Rattle.share_flows.proofs.DistinctFlowLemmas.{apart-set}
use Rattle.share_flows.proofs.buffers.Buffers.pop_at.Goals as goal

pub pop-requires : goal.pop-requires
pop-requires c =
    some_packet _ _ c.args.handle.now c.index_mut-ring.result.now c.self.view_is c.requires.there
    c.index_mut-ring.ensures.value c.requires.busy

pub returns-clause-head : goal.returns-clause-head
returns-clause-head c =
    head_popped _ _ c.args.handle.now c.index_mut-ring.result.now c.self.view_is c.requires.there
    c.index_mut-ring.ensures.value _ _ c.pop.ensures.head

pub returns-clause-after : goal.returns-clause-after
returns-clause-after c =
    after_pop _ _ c.args.handle.now c.index_mut-ring.result.now c.self.view_is c.requires.there
    c.index_mut-ring.ensures.value _ c.pop.ensures.after

pub invariant_of-self : goal.invariant_of-self
invariant_of-self c =
    apart-set c.self.inside.rings.items c.args.handle.now.at c.pop.new.self c.index_mut-ring.result.now
    (ap (λ (b : BufferView). b.flow) c.pop.ensures.after ∙ ap (λ (b : BufferView). b.flow)
    c.index_mut-ring.ensures.value)
    c.self.invariant
