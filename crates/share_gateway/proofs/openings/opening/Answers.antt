use Rattle.std.proofs.Common.{sym}
use Rattle.share_gateway.proofs.OpeningLemmas.{opening-left, numbers-fit}
use Rattle.share_gateway.proofs.openings.opening.Goals as goal

pub invariant_of-result : goal.invariant_of-result
invariant_of-result c = numbers-fit c.args.plan.now c.tenants.ensures.limits

pub returns : goal.returns
returns c = sym (opening-left c.args.plan.now c.tenants.ensures.limits)
