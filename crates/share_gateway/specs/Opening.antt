-- The opening of a plan: the commands that make it on a new link, in order, each with the entry that it is for.
use Rattle.std.specs.Prelude.{ℕ, List, [], ◌∷◌, ◌++◌, map, flat_map, find, nat_eq, nat_le, Bool, Option, None, Some}
use Rattle.std.specs.Prelude.{if◌then◌else◌}
use Rattle.std.specs.List.{enumerate_from, range_with_len}
use Rattle.share_base.specs.declared.command.Command.{Command}
use Rattle.share_base.specs.declared.command.Command.TheVariants.{MakeCurrency, MakeTicket, FundCurrency, FundFlow}
use Rattle.share_base.specs.declared.command.Command.TheVariants.{OpenFlow, CloseFlow, Hold}
use Rattle.share_gateway.specs.declared.plan.Grant.{Grant}
use Rattle.share_gateway.specs.declared.plan.Entry.{Entry}
use Rattle.share_gateway.specs.declared.plan.Entry.TheVariants.{Currency, Tenant, CurrencyGrant, TenantGrant}
use Rattle.share_gateway.specs.declared.openings.PlanCommand.{PlanCommand}
use Rattle.share_gateway.specs.Plan.{CurrencyView, TenantView, PlanView, gap, greatest_flow}

-- the items, each with its number from 1
abbrev pub numbered : {A : Type 0} → List A → List (ℕ × A)
numbered xs = enumerate_from 1 xs

abbrev pub planned : Entry → Command → PlanCommand
planned entry command = record { command = command; entry = entry }

-- ---- Currencies

abbrev pub make_command : ℕ × CurrencyView → PlanCommand
make_command c = planned (Currency c.0) (MakeCurrency c.1.name)

-- ---- Flows

abbrev pub open_command : ℕ × TenantView → PlanCommand
open_command t = planned (Tenant t.0) (OpenFlow t.1.name t.1.limit t.1.tariff)

-- a flow number that no tenant has is opened and closed
abbrev pub gap_commands : Entry → List PlanCommand
gap_commands entry = planned entry (OpenFlow gap 1 1) ∷ planned entry (CloseFlow gap) ∷ []

-- whether a tenant's flow number is n or a greater one
abbrev pub reaches : ℕ → ℕ × TenantView → Bool
reaches n t = nat_le n t.1.flow

-- the tenant opens its flow if it has the number, and otherwise is the one after a gap
abbrev pub number_by : ℕ → Option (ℕ × TenantView) → List PlanCommand
number_by n None = []
number_by n (Some t) = if nat_eq n t.1.flow then open_command t ∷ [] else gap_commands (Tenant t.0)

-- the commands of a flow number: by the first tenant that has it or a greater one
abbrev pub number_commands : List TenantView → ℕ → List PlanCommand
number_commands ts n = number_by n (find (reaches n) (numbered ts))

abbrev pub flow_commands : List TenantView → List PlanCommand
flow_commands ts = flat_map (number_commands ts) (range_with_len 1 (greatest_flow ts))

-- ---- Grants

-- the grantee: a currency or a tenant, with its number
pub data Grantee : Type 0 where
  ToCurrency : ℕ → CurrencyView → Grantee
  ToTenant : ℕ → TenantView → Grantee

abbrev pub to_currency : ℕ × CurrencyView → Grantee
to_currency c = ToCurrency c.0 c.1

abbrev pub to_tenant : ℕ × TenantView → Grantee
to_tenant t = ToTenant t.0 t.1

-- all currencies, and then all tenants
abbrev pub grantees : PlanView → List Grantee
grantees p = map to_currency (numbered p.currencies) ++ map to_tenant (numbered p.tenants)

abbrev pub grants_to : Grantee → List Grant
grants_to (ToCurrency i c) = c.grants
grants_to (ToTenant i t) = t.grants

-- the entry of the j-th grant
abbrev pub grant_entry : Grantee → ℕ → Entry
grant_entry (ToCurrency i c) j = CurrencyGrant i j
grant_entry (ToTenant i t) j = TenantGrant i j

-- a ticket funds the currency or the tenant's flow
abbrev pub fund_command : Grantee → ℕ → Command
fund_command (ToCurrency i c) ticket = FundCurrency ticket c.name
fund_command (ToTenant i t) ticket = FundFlow ticket t.name

-- a grant, its number among those of the same currency or tenant, and what it is to
pub record GrantTo : Type 0 where
  pub grantee : Grantee
  pub number : ℕ
  pub grant : Grant

abbrev pub grant_to : Grantee → ℕ × Grant → GrantTo
grant_to to g = record { grantee = to; number = g.0; grant = g.1 }

abbrev pub all_grants_to : Grantee → List GrantTo
all_grants_to to = map (grant_to to) (numbered (grants_to to))

-- all grants, in the order of their tickets
abbrev pub all_grants : PlanView → List GrantTo
all_grants p = flat_map all_grants_to (grantees p)

-- the grant's ticket is made, and funds
abbrev pub grant_commands : ℕ × GrantTo → List PlanCommand
grant_commands g =
    let entry = grant_entry g.1.grantee g.1.number in
    planned entry (MakeTicket g.1.grant.amount g.1.grant.denomination)
    ∷ planned entry (fund_command g.1.grantee g.0)
    ∷ []

-- ---- Holds

abbrev pub hold_commands : ℕ × TenantView → List PlanCommand
hold_commands t = if t.1.held then planned (Tenant t.0) (Hold t.1.name) ∷ [] else []

-- ---- The opening

-- each currency, and each flow number from 1 to the greatest. Then come each grant, whose ticket has its number among
-- all grants, and a hold for each tenant that is held
abbrev pub opening : PlanView → List PlanCommand
opening p =
    map make_command (numbered p.currencies)
    ++ flow_commands p.tenants
    ++ flat_map grant_commands (numbered (all_grants p))
    ++ flat_map hold_commands (numbered p.tenants)
