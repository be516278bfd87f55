-- Changes of a plan that is in use, and the flow of a tenant.
use Rattle.std.specs.Prelude.{ℕ, zero, suc, Bool, List, [], ◌∷◌, find, bytes_eq, is_some, Option, None, Some}
use Rattle.std.specs.Prelude.{if◌then◌else◌}
use Rattle.share_model.specs.funding.Graph.{NameBytes}
use Rattle.share_model.specs.lists.Change.{change_first}
use Rattle.share_gateway.specs.declared.plan.Grant.{Grant}
use Rattle.share_gateway.specs.Plan.{CurrencyView, PlanView, TenantView, has_name}

abbrev pub is_tenant : NameBytes → TenantView → Bool
is_tenant name t = bytes_eq name t.name

-- the flow of a tenant, and 0, which no flow has, of another name
abbrev pub flow_by : Option TenantView → ℕ
flow_by None = 0
flow_by (Some t) = t.flow

abbrev pub tenant_flow : PlanView → NameBytes → ℕ
tenant_flow p name = flow_by (find (is_tenant name) p.tenants)

-- ---- Holds

abbrev pub held_as : Bool → TenantView → TenantView
held_as held t = record t { held = held }

-- the tenant of a name is held, or not
abbrev pub with_hold : NameBytes → Bool → PlanView → PlanView
with_hold name held p = record p { tenants = change_first (is_tenant name) (held_as held) p.tenants }

-- ---- Amounts

-- the amount of the grant of an index; nothing changes if there is none
abbrev pub amend_at : ℕ → ℕ → List Grant → List Grant
amend_at index amount [] = []
amend_at zero amount (g ∷ gs) = record g { amount = amount } ∷ gs
amend_at (suc index) amount (g ∷ gs) = g ∷ amend_at index amount gs

abbrev pub currency_amended : ℕ → ℕ → CurrencyView → CurrencyView
currency_amended index amount c = record c { grants = amend_at index amount c.grants }

abbrev pub tenant_amended : ℕ → ℕ → TenantView → TenantView
tenant_amended index amount t = record t { grants = amend_at index amount t.grants }

-- the grant of an index, from 0, of the currency of a name, or otherwise of the tenant of that name, has this amount
abbrev pub with_amount : NameBytes → ℕ → ℕ → PlanView → PlanView
with_amount name index amount p =
    if is_some (find (has_name name) p.currencies)
    then record p { currencies = change_first (has_name name) (currency_amended index amount) p.currencies }
    else record p { tenants = change_first (is_tenant name) (tenant_amended index amount) p.tenants }
