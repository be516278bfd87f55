use Rattle.share_report.proofs.FlowLemmas.{flows_more, flows_all}
use Rattle.share_report.proofs.engine.push_flows.Goals as goal

pub loop-flow-preserved : goal.loop-flow-preserved
loop-flow-preserved g c =
    flows_more _ _ _ _ _ _ c.loop-flow.invariant c.in-Some.ensures c.push_flow.ensures.bytes c.push_flow.ensures.few

pub returns-clause-bytes : goal.returns-clause-bytes
returns-clause-bytes g c = flows_all _ _ _ _ c.loop-flow.invariant c.in_default.ensures
