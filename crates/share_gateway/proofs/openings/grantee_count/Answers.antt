use Rattle.std.proofs.Common.{sym}
use Rattle.share_gateway.proofs.OpeningLemmas.{length-grantees}
use Rattle.share_gateway.proofs.openings.grantee_count.Goals as goal

pub returns : goal.returns
returns c = rw (c.currencies.ensures.value, c.tenants.ensures.value) (sym (length-grantees c.args.plan.now))
