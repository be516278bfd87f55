-- Openings, checked against worked examples: each equation holds by computation alone.
use Rattle.std.specs.Prelude.{◌≡◌, ℕ, Bool, true, false, List, [], ◌∷◌, ◌++◌, map, codes, None, Some, refl}
use Rattle.share_base.specs.declared.command.Command.{Command}
use Rattle.share_base.specs.declared.command.Command.TheVariants.{MakeCurrency, MakeTicket, FundCurrency, FundFlow}
use Rattle.share_base.specs.declared.command.Command.TheVariants.{OpenFlow, CloseFlow, Hold}
use Rattle.share_model.specs.funding.Graph.{NameBytes, base}
use Rattle.share_gateway.specs.declared.plan.Entry.{Entry}
use Rattle.share_gateway.specs.declared.plan.Entry.TheVariants.{Currency, Tenant, CurrencyGrant, TenantGrant}
use Rattle.share_gateway.specs.declared.plan.Grant.{Grant}
use Rattle.share_gateway.specs.declared.plan.PlanFault.TheVariants.{FlowNumbers, GapName, SharedName}
use Rattle.share_gateway.specs.Plan.{TenantView, PlanView, gap, plan_fault}
use Rattle.share_gateway.specs.Opening.{opening}

a : NameBytes
a = codes "a"

b : NameBytes
b = codes "b"

x : NameBytes
x = codes "x"

grant : ℕ → NameBytes → Grant
grant amount denomination = record { amount = amount; denomination = denomination }

-- a tenant with a flow number and one grant of x, held or not
tenant : NameBytes → ℕ → ℕ → Bool → TenantView
tenant name flow amount held = record {
  name = name;
  flow = flow;
  limit = 4;
  tariff = 1;
  grants = grant amount x ∷ [];
  held = held;
}

-- a currency that is backed by 1000 of `base`, and two tenants
shared_link : ℕ → Bool → PlanView
shared_link flow held = record {
  currencies = record { name = x; grants = grant 1000 base ∷ [] } ∷ [];
  tenants = tenant a 1 1 false ∷ tenant b flow 2 held ∷ [];
}

grants_of_both : List Command
grants_of_both =
    MakeTicket 1000 base ∷ FundCurrency 1 x ∷ MakeTicket 1 x ∷ FundFlow 2 a ∷ MakeTicket 2 x ∷ FundFlow 3 b ∷ []

commands : PlanView → List Command
commands p = map (λ c. c.command) (opening p)

entries : PlanView → List Entry
entries p = map (λ c. c.entry) (opening p)

-- flow numbers without a gap
plain_opens : commands (shared_link 2 false)
    ≡ MakeCurrency x ∷ OpenFlow a 4 1 ∷ OpenFlow b 4 1 ∷ [] ++ grants_of_both
unfolding commands shared_link tenant grant grants_of_both a b x
plain_opens = refl

plain_entries : entries (shared_link 2 false)
    ≡ Currency 1 ∷ Tenant 1 ∷ Tenant 2 ∷ CurrencyGrant 1 1 ∷ CurrencyGrant 1 1 ∷ TenantGrant 1 1 ∷ TenantGrant 1 1
    ∷ TenantGrant 2 1 ∷ TenantGrant 2 1 ∷ []
unfolding entries shared_link tenant grant a b x
plain_entries = refl

-- the second tenant is held
held_opens : commands (shared_link 2 true)
    ≡ MakeCurrency x ∷ OpenFlow a 4 1 ∷ OpenFlow b 4 1 ∷ [] ++ grants_of_both ++ Hold b ∷ []
unfolding commands shared_link tenant grant grants_of_both a b x
held_opens = refl

-- the second tenant has the number 4: the gap before it counts to it
gap_opens : commands (shared_link 4 false)
    ≡ MakeCurrency x ∷ OpenFlow a 4 1 ∷ OpenFlow gap 1 1 ∷ CloseFlow gap ∷ OpenFlow gap 1 1 ∷ CloseFlow gap
    ∷ OpenFlow b 4 1 ∷ [] ++ grants_of_both
unfolding commands shared_link tenant grant grants_of_both a b x
gap_opens = refl

gap_entries : entries (shared_link 4 false)
    ≡ Currency 1 ∷ Tenant 1 ∷ Tenant 2 ∷ Tenant 2 ∷ Tenant 2 ∷ Tenant 2 ∷ Tenant 2 ∷ CurrencyGrant 1 1
    ∷ CurrencyGrant 1 1 ∷ TenantGrant 1 1 ∷ TenantGrant 1 1 ∷ TenantGrant 2 1 ∷ TenantGrant 2 1 ∷ []
unfolding entries shared_link tenant grant a b x
gap_entries = refl

-- limits of a plan

is_a_plan : plan_fault (shared_link 1024 false) ≡ None
unfolding shared_link tenant grant a b x
is_a_plan = refl

numbers_past_1024 : plan_fault (shared_link 1025 false) ≡ Some FlowNumbers
unfolding shared_link tenant grant a b x
numbers_past_1024 = refl

number_twice : plan_fault (shared_link 1 false) ≡ Some FlowNumbers
unfolding shared_link tenant grant a b x
number_twice = refl

called_gap : plan_fault (record { currencies = []; tenants = tenant gap 1 1 false ∷ [] }) ≡ Some GapName
unfolding tenant grant x
called_gap = refl

called_as_a_currency : plan_fault (record {
  currencies = record { name = a; grants = [] } ∷ [];
  tenants = tenant a 1 1 false ∷ [];
}) ≡ Some SharedName
unfolding tenant grant a x
called_as_a_currency = refl
