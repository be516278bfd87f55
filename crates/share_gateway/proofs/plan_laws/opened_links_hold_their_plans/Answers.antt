use Rattle.share_gateway.proofs.PlannedLemmas.{opened-holds_plan}
use Rattle.share_gateway.proofs.plan_laws.opened_links_hold_their_plans.Goals as goal

pub returns : goal.returns
returns c = opened-holds_plan
