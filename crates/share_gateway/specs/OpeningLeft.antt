-- The rest of an opening, by the next item of each of its sections.
use Rattle.std.specs.Prelude.{◌≡◌, ℕ, zero, suc, ◌+◌, ◌-◌, ◌<◌, ◌^◌, List, [], ◌∷◌, ◌++◌, map, flat_map, length, drop}
use Rattle.std.specs.Prelude.{slice_get, Option, None, Some}
use Rattle.std.specs.List.{enumerate_from}
use Rattle.share_gateway.specs.declared.plan.Entry.{Entry}
use Rattle.share_gateway.specs.declared.plan.Entry.TheVariants.{Tenant}
use Rattle.share_gateway.specs.declared.openings.PlanCommand.{PlanCommand}
use Rattle.share_gateway.specs.declared.openings.Group.{Group}
use Rattle.share_gateway.specs.declared.openings.FlowCursor.{FlowCursor}
use Rattle.share_gateway.specs.declared.openings.GrantCursor.{GrantCursor}
use Rattle.share_gateway.specs.declared.openings.Sections.{Sections}
use Rattle.share_gateway.specs.declared.openings.Grantee.{Grantee as Lent}
use Rattle.share_gateway.specs.declared.openings.Grantee.TheVariants.{Currency as LentCurrency, Tenant as LentTenant}
use Rattle.share_gateway.specs.declared.openings.Found.{Found}
use Rattle.share_gateway.specs.Plan.{TenantView, PlanView}
use Rattle.share_gateway.specs.Opening.{make_command, open_command, gap_commands, Grantee, ToCurrency, ToTenant}
use Rattle.share_gateway.specs.Opening.{grantees, grants_to, GrantTo, all_grants_to, grant_commands, hold_commands}

abbrev pub option_list : {A : Type 0} → Option A → List A
option_list None = []
option_list (Some x) = x ∷ []

abbrev pub group_list : Group → List PlanCommand
group_list g = g.first ∷ option_list g.second

-- from the currency of an index on
abbrev pub currencies_left : PlanView → ℕ → List PlanCommand
currencies_left p index = map make_command (enumerate_from (index + 1) (drop index p.currencies))

-- that many flow numbers that no tenant has
abbrev pub gap_list : Entry → ℕ → List PlanCommand
gap_list entry zero = []
gap_list entry (suc n) = gap_commands entry ++ gap_list entry n

-- from the flow number n on, if the first of these tenants, with the number i, has it or a greater one
abbrev pub flows_from : ℕ → ℕ → List TenantView → List PlanCommand
flows_from i n [] = []
flows_from i n (t ∷ ts) = gap_list (Tenant i) (t.flow - n) ++ open_command (i, t) ∷ flows_from (i + 1) (t.flow + 1) ts

abbrev pub flows_left : PlanView → FlowCursor → List PlanCommand
flows_left p cursor = flows_from (cursor.tenant + 1) cursor.number (drop cursor.tenant p.tenants)

-- the grants to these, but for the first few to the first of them
abbrev pub grants_from : ℕ → List Grantee → List GrantTo
grants_from few [] = []
grants_from few (to ∷ others) = drop few (all_grants_to to) ++ flat_map all_grants_to others

abbrev pub grants_after : PlanView → ℕ → ℕ → List GrantTo
grants_after p grantee grant = grants_from grant (drop grantee (grantees p))

abbrev pub grants_left : PlanView → GrantCursor → List PlanCommand
grants_left p cursor =
    flat_map grant_commands (enumerate_from cursor.ticket (grants_after p cursor.grantee cursor.grant))

-- the tickets that are left have numbers below 2^32
abbrev pub NumbersFit : PlanView → GrantCursor → Type 0
NumbersFit p cursor = cursor.ticket + length (grants_after p cursor.grantee cursor.grant) < 2 ^ 32

-- from the tenant of an index on
abbrev pub holds_left : PlanView → ℕ → List PlanCommand
holds_left p index = flat_map hold_commands (enumerate_from (index + 1) (drop index p.tenants))

abbrev pub sections_left : PlanView → Sections → List PlanCommand
sections_left p s =
    currencies_left p s.currency ++ (flows_left p s.flows ++ (grants_left p s.grants ++ holds_left p s.holder))

-- a currency or a tenant that is lent, as it is
abbrev pub seen : Lent → Grantee
seen (LentCurrency number currency) = ToCurrency number currency.now
seen (LentTenant number tenant) = ToTenant number tenant.now

-- the first grant from the given one on is the found one
pub record FindsGrant (p : PlanView) (grantee grant : ℕ) (found : Found) : Type 0 where
  pub stands : slice_get (grantees p) found.index ≡ Some (seen found.grantee)
  pub within : found.grant < length (grants_to (seen found.grantee))
  pub same : grants_after p grantee grant ≡ grants_after p found.index found.grant
