use Rattle.std.proofs.Common.{◌-◌, ◌∙◌, ap, sym, arith, length}
use Rattle.std.specs.Prelude.{slice_get, List}
use Rattle.share_gateway.specs.Plan.{CurrencyView}
use Rattle.share_gateway.specs.OpeningLeft.{seen}
use Rattle.share_gateway.proofs.OpeningLemmas.{get-item, length-grantees, grantee-currency, grantee-mapped}
use Rattle.share_gateway.proofs.openings.grantee_at.Goals as goal

pub returns-then-index-currencies : goal.returns-then-index-currencies
returns-then-index-currencies c =
    let is = ap (λ (cs : List CurrencyView). slice_get cs c.args.index) (sym c.currencies-currencies.ensures.value)
    ∙ get-item c.currencies-currencies.result.now c.args.index c.index-currencies-index.result
    c.if-index-currencies.true c.index-currencies-index.is in
    grantee-currency c.args.plan.now c.args.index c.index-currencies-index.result is

pub tenant_at-requires : goal.tenant_at-requires
tenant_at-requires c =
    let currencies = ap length c.currencies-currencies.ensures.value in
    let tenants = ap length c.tenants.ensures.value in
    let all = length-grantees c.args.plan.now in
    omega (arith, currencies, tenants, all, c.requires, c.if-index-currencies.false)

pub returns : goal.returns
returns c =
    let size = ap length c.currencies-currencies.ensures.value in
    grantee-mapped c.args.plan.now c.args.index (seen c.tenant_at.result)
    (omega (arith, size, c.if-index-currencies.false))
    (rw (← c.currencies-currencies.ensures.value, ← c.tenants.ensures.value) c.tenant_at.ensures)
