use Rattle.std.proofs.Common.{length, ◌-◌}
use Rattle.share_report.proofs.FlowLemmas.{FlowsUpTo}
use Rattle.share_report.proofs.engine.push_flows.Given as goal

abbrev pub invariant-loop-flow : goal.invariant-loop-flow
invariant-loop-flow g l = FlowsUpTo l.engine.live l.initial.text l.text l.n

abbrev pub decreases-loop-flow : goal.decreases-loop-flow
decreases-loop-flow g l = length l.engine.live.graph.flows - l.n
