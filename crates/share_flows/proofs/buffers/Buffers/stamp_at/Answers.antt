use Rattle.std.proofs.Common.{◌∙◌, ap}
use Rattle.share_model.specs.link.Buffers.{payloads_in}
use Rattle.share_flows.specs.Stamps.{BufferView, with_stamp}
use Rattle.share_flows.proofs.DistinctFlowLemmas.{apart-set}
use Rattle.share_flows.proofs.StampLemmas.{stamped-payloads}
use Rattle.share_flows.proofs.RingLemmas.{some_packet, after_stamp}
use Rattle.share_flows.proofs.buffers.Buffers.stamp_at.Goals as goal

pub stamp-requires-clause-some : goal.stamp-requires-clause-some
stamp-requires-clause-some c =
    some_packet _ _ c.args.handle.now c.index_mut-ring.result.now c.self.view_is c.requires.there
    c.index_mut-ring.ensures.value c.requires.busy

pub returns-clause-after : goal.returns-clause-after
returns-clause-after c =
    after_stamp _ _ c.args.handle.now c.index_mut-ring.result.now c.self.view_is c.requires.there
    c.index_mut-ring.ensures.value _ c.args.header.now c.stamp.ensures

pub returns-clause-payloads : goal.returns-clause-payloads
returns-clause-payloads c =
    ap payloads_in (after_stamp _ _ c.args.handle.now c.index_mut-ring.result.now c.self.view_is c.requires.there
    c.index_mut-ring.ensures.value _ c.args.header.now c.stamp.ensures)
    ∙ stamped-payloads c.args.self.now c.args.handle.now.flow c.args.header.now

pub invariant_of-self : goal.invariant_of-self
invariant_of-self c =
    apart-set c.self.inside.rings.items c.args.handle.now.at c.stamp.new.self c.index_mut-ring.result.now
    (ap (λ (b : BufferView). b.flow) (c.stamp.ensures ∙ ap (with_stamp c.args.header.now)
    c.index_mut-ring.ensures.value))
    c.self.invariant
