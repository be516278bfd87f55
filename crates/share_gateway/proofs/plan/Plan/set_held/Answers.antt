use Rattle.std.proofs.Common.{◌≡◌, ◌∙◌, ap, sym, subst, List, Some, None}
use Rattle.std.specs.Prelude.{position, slice_set}
use Rattle.share_flows.proofs.FirstItemLemmas.{changed, unchanged}
use Rattle.share_gateway.specs.PlanChanges.{held_as, is_tenant, with_hold}
use Rattle.share_gateway.specs.Plan.{PlanView, TenantView, IsInLimits}
use Rattle.share_gateway.proofs.PlanChangeLemmas.{limits-held}
use Rattle.share_gateway.proofs.plan.Plan.set_held.Goals as goal

pub returns-in-None : goal.returns-in-None
returns-in-None c =
    let none : position (is_tenant c.args.name) c.self.inside.tenants.items ≡ None =
    ap (position (is_tenant c.args.name)) (sym c.as_slice.ensures.value) ∙ sym c.in-None.ensures in
    subst (λ (p : PlanView). p ≡ with_hold c.args.name c.args.held p) c.self.view_is
    (ap (λ (ts : List TenantView). record { currencies = c.self.inside.currencies.items; tenants = ts })
    (sym (unchanged (is_tenant c.args.name) (held_as c.args.held) c.self.inside.tenants.items none)))

pub returns-in-Some : goal.returns-in-Some
returns-in-Some c =
    let place : position (is_tenant c.args.name) c.self.inside.tenants.items ≡ Some c.in-Some.index =
    ap (position (is_tenant c.args.name)) (sym c.as_slice.ensures.value) ∙ sym c.in-Some.ensures in
    subst
    (λ (p : PlanView). record {
      currencies = c.self.inside.currencies.items;
      tenants = slice_set c.self.inside.tenants.items c.in-Some.index c.mark_held.new.tenant;
    } ≡ with_hold c.args.name c.args.held p)
    c.self.view_is
    (ap (λ (ts : List TenantView). record { currencies = c.self.inside.currencies.items; tenants = ts })
    (changed (is_tenant c.args.name) (held_as c.args.held) c.self.inside.tenants.items c.in-Some.index
    c.index_mut-tenant.result.now c.mark_held.new.tenant place c.index_mut-tenant.ensures.value c.mark_held.ensures))

pub invariant_of-self : goal.invariant_of-self
invariant_of-self c =
    let place : position (is_tenant c.args.name) c.self.inside.tenants.items ≡ Some c.in-Some.index =
    ap (position (is_tenant c.args.name)) (sym c.as_slice.ensures.value) ∙ sym c.in-Some.ensures in
    subst (λ (ts : List TenantView). IsInLimits (record { currencies = c.self.inside.currencies.items; tenants = ts }))
    (sym (changed (is_tenant c.args.name) (held_as c.args.held) c.self.inside.tenants.items c.in-Some.index
    c.index_mut-tenant.result.now c.mark_held.new.tenant place c.index_mut-tenant.ensures.value c.mark_held.ensures))
    (limits-held c.args.name c.args.held
    (record { currencies = c.self.inside.currencies.items; tenants = c.self.inside.tenants.items }) c.self.invariant)
