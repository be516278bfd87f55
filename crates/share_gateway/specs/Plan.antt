-- The view of a plan in contracts, and the limits that a plan is in.
use Rattle.std.specs.Prelude.{◌≡◌, ℕ, ◌+◌, ◌*◌, Bool, true, not, ◌&&◌, List, [], ◌∷◌, map, length, sum_by, nat_lt}
use Rattle.std.specs.Prelude.{nat_le}
use Rattle.std.specs.Prelude.{bytes_eq, codes, max, Option, None, Some, if◌then◌else◌}
use Rattle.std.specs.List.{list_any, list_all}
use Rattle.share_model.specs.funding.Graph.{NameBytes}
use Rattle.share_gateway.specs.declared.plan.Grant.{Grant}
use Rattle.share_gateway.specs.declared.plan.PlanFault.{PlanFault}
use Rattle.share_gateway.specs.declared.plan.PlanFault.TheVariants.{FlowNumbers, GapName, SharedName, TooLong}

pub record CurrencyView : Type 0 where
  pub name : NameBytes
  pub grants : List Grant

pub record TenantView : Type 0 where
  pub name : NameBytes
  pub flow : ℕ
  pub limit : ℕ
  pub tariff : ℕ
  pub grants : List Grant
  pub held : Bool

-- the currencies and the tenants, in order
pub record PlanView : Type 0 where
  pub currencies : List CurrencyView
  pub tenants : List TenantView

-- the name under which a flow is opened whose number no tenant has
abbrev pub gap : NameBytes
gap = codes "gap"

-- ---- Flow numbers

abbrev pub flows_of : List TenantView → List ℕ
flows_of ts = map (λ (t : TenantView). t.flow) ts

-- each number is above the one before it, and the first one above n
abbrev pub ascends : ℕ → List ℕ → Bool
ascends n [] = true
ascends n (m ∷ ms) = nat_lt n m && ascends m ms

-- the numbers ascend from 1 to at most 1024
abbrev pub are_flow_numbers : List ℕ → Bool
are_flow_numbers ns = ascends 0 ns && list_all (λ n. nat_le n 1024) ns

-- the greatest flow number, and 0 without a tenant
abbrev pub greatest_flow : List TenantView → ℕ
greatest_flow [] = 0
greatest_flow (t ∷ ts) = max t.flow (greatest_flow ts)

-- ---- Names

abbrev pub has_name : NameBytes → CurrencyView → Bool
has_name name c = bytes_eq name c.name

abbrev pub is_gap : TenantView → Bool
is_gap t = bytes_eq t.name gap

-- whether a currency has the tenant's name
abbrev pub is_shared : List CurrencyView → TenantView → Bool
is_shared cs t = list_any (has_name t.name) cs

-- ---- Length

abbrev pub grants_in : PlanView → ℕ
grants_in p =
    sum_by (λ (c : CurrencyView). length c.grants) p.currencies + sum_by (λ (t : TenantView). length t.grants) p.tenants

-- the number of commands that make the currencies and the tickets, and fund with these
abbrev pub funding_commands : PlanView → ℕ
funding_commands p = length p.currencies + 2 * grants_in p

-- ---- The limits

abbrev pub first_fault : List (Bool × PlanFault) → Option PlanFault
first_fault [] = None
first_fault (row ∷ rows) = if row.0 then Some row.1 else first_fault rows

-- why currencies and tenants are no plan
abbrev pub plan_fault : PlanView → Option PlanFault
plan_fault p = first_fault (
    (not (are_flow_numbers (flows_of p.tenants)), FlowNumbers)
    ∷ (list_any is_gap p.tenants, GapName)
    ∷ (list_any (is_shared p.currencies) p.tenants, SharedName)
    ∷ (not (nat_le (funding_commands p) 65536), TooLong)
    ∷ [])

-- the invariant of each plan
pub record IsInLimits (p : PlanView) : Type 0 where
  pub flows : are_flow_numbers (flows_of p.tenants) ≡ true
  pub funding : nat_le (funding_commands p) 65536 ≡ true
