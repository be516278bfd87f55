use Rattle.share_flows.proofs.RingLemmas.{may_push, after_push, after_full}
use Rattle.std.proofs.Common.{◌∙◌, ap}
use Rattle.share_flows.specs.Stamps.{BufferView}
use Rattle.share_flows.proofs.DistinctFlowLemmas.{apart-set, flow-pushed}
use Rattle.share_flows.proofs.buffers.Buffers.push_at.Goals as goal

pub push-requires : goal.push-requires
push-requires c =
    may_push _ _ c.args.handle.now c.index_mut-ring.result.now c.self.view_is c.requires.there
    c.index_mut-ring.ensures.value c.requires.numbers

pub returns-clause-ok : goal.returns-clause-ok
returns-clause-ok c =
    after_push _ _ c.args.handle.now c.index_mut-ring.result.now c.self.view_is c.requires.there
    c.index_mut-ring.ensures.value c.push.result _ c.args.body c.push.ensures.ok

pub returns-clause-full : goal.returns-clause-full
returns-clause-full c =
    after_full _ _ c.args.handle.now c.index_mut-ring.result.now c.self.view_is c.requires.there
    c.index_mut-ring.ensures.value c.push.result _ c.args.body c.push.ensures.full

pub invariant_of-self : goal.invariant_of-self
invariant_of-self c =
    apart-set c.self.inside.rings.items c.args.handle.now.at c.push.new.self c.index_mut-ring.result.now
    (flow-pushed c.push.result c.index_mut-ring.result.now c.push.new.self c.args.body c.push.ensures.ok
    c.push.ensures.full ∙ ap (λ (b : BufferView). b.flow) c.index_mut-ring.ensures.value) c.self.invariant
