use Rattle.std.proofs.Common.{◌≡◌, ◌∙◌, ap, sym, subst, List}
use Rattle.std.specs.Prelude.{find, is_some, true, false}
use Rattle.share_gateway.specs.Plan.{PlanView, CurrencyView, TenantView, IsInLimits, has_name}
use Rattle.share_gateway.specs.PlanChanges.{with_amount}
use Rattle.share_gateway.proofs.PlanChangeLemmas.{limits-currency, limits-tenant, amount-currency, amount-tenant}
use Rattle.share_gateway.proofs.PlanChangeLemmas.{unnamed}
use Rattle.share_gateway.proofs.plan.Plan.set_amount.Goals as goal

pub invariant_of-self : goal.invariant_of-self
invariant_of-self c =
    subst (λ (cs : List CurrencyView). IsInLimits (record { currencies = cs; tenants = c.self.inside.tenants.items }))
    (sym c.amend_currency.ensures.amended)
    (limits-currency c.args.name c.args.grant c.args.amount
    (record { currencies = c.self.inside.currencies.items; tenants = c.self.inside.tenants.items }) c.self.invariant)

pub returns-then-amend_currency : goal.returns-then-amend_currency
returns-then-amend_currency c =
    subst
    (λ (p : PlanView). record {
      currencies = c.amend_currency.new.currencies.items;
      tenants =
          c.self.inside.tenants.items;
    }
    ≡ with_amount c.args.name c.args.grant c.args.amount p)
    c.self.view_is
    (amount-currency c.args.name c.args.grant c.args.amount
    (record { currencies = c.self.inside.currencies.items; tenants = c.self.inside.tenants.items })
    c.amend_currency.new.currencies.items (sym c.amend_currency.ensures.found ∙ c.if-amend_currency.true)
    c.amend_currency.ensures.amended)

pub invariant_of-self-2 : goal.invariant_of-self-2
invariant_of-self-2 c =
    let same =
    c.amend_currency.ensures.amended
    ∙ unnamed c.args.name c.args.grant c.args.amount c.self.inside.currencies.items
    (sym c.amend_currency.ensures.found ∙ c.if-amend_currency.false) in
    subst (λ (cs : List CurrencyView). IsInLimits
    (record { currencies = cs; tenants = c.amend_tenant.new.tenants.items }))
    (sym same)
    (subst (λ (ts : List TenantView). IsInLimits (record { currencies = c.self.inside.currencies.items; tenants = ts }))
    (sym c.amend_tenant.ensures)
    (limits-tenant c.args.name c.args.grant c.args.amount
    (record { currencies = c.self.inside.currencies.items; tenants = c.self.inside.tenants.items }) c.self.invariant))

pub returns : goal.returns
returns c =
    subst
    (λ (p : PlanView).
    record { currencies = c.amend_currency.new.currencies.items; tenants = c.amend_tenant.new.tenants.items }
    ≡ with_amount c.args.name c.args.grant c.args.amount p)
    c.self.view_is
    (amount-tenant c.args.name c.args.grant c.args.amount
    (record { currencies = c.self.inside.currencies.items; tenants = c.self.inside.tenants.items })
    c.amend_currency.new.currencies.items c.amend_tenant.new.tenants.items
    (sym c.amend_currency.ensures.found ∙ c.if-amend_currency.false) c.amend_currency.ensures.amended
    c.amend_tenant.ensures)
