use Rattle.share_flows.proofs.DistinctFlowLemmas.{apart-none}
use Rattle.share_flows.proofs.buffers.Buffers.new.Goals as goal

pub invariant_of-result : goal.invariant_of-result
invariant_of-result c = apart-none _ c.in_ok-rings.ensures.items
