use Rattle.std.proofs.Common.{◌≡◌, ◌∙◌, ap, sym, Some, None}
use Rattle.std.specs.Prelude.{position}
use Rattle.share_flows.proofs.FirstItemLemmas.{changed, unchanged}
use Rattle.share_gateway.specs.PlanChanges.{is_tenant, tenant_amended}
use Rattle.share_gateway.proofs.plan.changes.amend_tenant.Goals as goal

pub returns-in-None : goal.returns-in-None
returns-in-None c =
    let none : position (is_tenant c.args.name) c.args.tenants.now.items ≡ None =
    ap (position (is_tenant c.args.name)) (sym c.as_slice.ensures.value) ∙ sym c.in-None.ensures in
    sym (unchanged (is_tenant c.args.name) (tenant_amended c.args.grant c.args.amount) c.args.tenants.now.items none)

pub returns-in-Some : goal.returns-in-Some
returns-in-Some c =
    let place : position (is_tenant c.args.name) c.args.tenants.now.items ≡ Some c.in-Some.index =
    ap (position (is_tenant c.args.name)) (sym c.as_slice.ensures.value) ∙ sym c.in-Some.ensures in
    changed (is_tenant c.args.name) (tenant_amended c.args.grant c.args.amount) c.args.tenants.now.items c.in-Some.index
    c.index_mut-tenant.result.now c.amend_in_tenant.new.tenant place c.index_mut-tenant.ensures.value
    c.amend_in_tenant.ensures
