use Rattle.std.proofs.Common.{◌∙◌, ap, sym, arith}
use Rattle.std.specs.Prelude.{slice_get, List}
use Rattle.share_gateway.specs.Plan.{TenantView}
use Rattle.share_gateway.proofs.OpeningLemmas.{get-item, left-gap, flow-within}
use Rattle.share_gateway.proofs.openings.next_flow.Goals as goal

pub returns-then-cursor-tenant : goal.returns-then-cursor-tenant
returns-then-cursor-tenant c =
    let found = c.in_ok-tenant.ensures.lookup in
    let is = ap (λ (ts : List TenantView). slice_get ts c.args.cursor.now.tenant) (sym c.tenants.ensures.value)
    ∙ get-item c.tenants.result.now c.args.cursor.now.tenant c.in_ok-tenant.tenant.now found.3.0 found.1 in
    let same = ap (λ (t : TenantView). t.flow) c.tenant.view_is in
    left-gap c.args.plan.now c.args.cursor.now.tenant c.args.cursor.now.number c.in_ok-tenant.tenant.now c.gap.result is
    (omega (arith, same, c.if-cursor-tenant.true)) c.gap.ensures

pub overflow_add-cursor-2 : goal.overflow_add-cursor-2
overflow_add-cursor-2 c =
    let found = c.in_ok-tenant.ensures.lookup in
    let is = ap (λ (ts : List TenantView). slice_get ts c.args.cursor.now.tenant) (sym c.tenants.ensures.value)
    ∙ get-item c.tenants.result.now c.args.cursor.now.tenant c.in_ok-tenant.tenant.now found.3.0 found.1 in
    let same = ap (λ (t : TenantView). t.flow) c.tenant.view_is in
    let few = flow-within c.args.plan.now c.args.cursor.now.tenant c.in_ok-tenant.tenant.now c.tenants.ensures.limits
    is in
    omega (arith, same, few)
