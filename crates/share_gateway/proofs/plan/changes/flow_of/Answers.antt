use Rattle.std.proofs.Common.{◌∙◌, ap, sym}
use Rattle.share_flows.proofs.FirstItemLemmas.{found, unfound}
use Rattle.share_gateway.specs.PlanChanges.{flow_by, is_tenant}
use Rattle.share_gateway.specs.Plan.{TenantView}
use Rattle.share_gateway.proofs.plan.changes.flow_of.Goals as goal

pub returns-in-None : goal.returns-in-None
returns-in-None c =
    sym (ap flow_by (unfound (is_tenant c.args.name) c.args.tenants.now (sym c.in-None.ensures)))

pub returns-in-Some : goal.returns-in-Some
returns-in-Some c =
    ap (λ (t : TenantView). t.flow) c.tenant.view_is
    ∙ sym (ap flow_by (found (is_tenant c.args.name) c.args.tenants.now c.in-Some.index c.index-tenants-index.result
    (sym c.in-Some.ensures) c.index-tenants-index.is))
