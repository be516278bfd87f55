-- Ticket currencies: which tickets are active, what each is worth, and the tickets of a flow, computed from the whole
-- graph at each use. Chains are followed for at most nine steps, one more than the longest chain of currencies.
use Rattle.std.specs.Prelude.{ℕ, ◌*◌, ◌/◌, ◌^◌, zero, suc, Bool, true, false, not, ◌&&◌, ◌||◌, min, List, [], map}
use Rattle.std.specs.Prelude.{filter, sum_by, nat_eq, bytes_eq, codes, if◌then◌else◌}
use Rattle.std.specs.List.{list_any}
use Rattle.share_model.specs.declared.funding.Holder.{Holder}
use Rattle.share_model.specs.declared.funding.Holder.TheVariants.{Nobody, Currency, Flow}
use Rattle.share_model.specs.declared.funding.Ticket.{Ticket}
use Rattle.share_model.specs.declared.funding.OpenFlow.{OpenFlow}

-- the bytes of a name
abbrev pub NameBytes : Type 0
NameBytes = List ℕ

-- the currency that always exists and has no backing
abbrev pub base : NameBytes
base = codes "base"

-- the currencies besides `base`, the tickets, the open flows and their names in order of opening, and the next numbers
-- to be given
pub record Graph : Type 0 where
  pub currencies : List NameBytes
  pub tickets : List Ticket
  pub next_ticket : ℕ
  pub flows : List (NameBytes × OpenFlow)
  pub next_flow : ℕ

-- a graph with nothing in it; numbers count from 1
abbrev pub empty_graph : Graph
empty_graph = record { currencies = []; tickets = []; next_ticket = 1; flows = []; next_flow = 1 }

-- the numbers of tickets, and of flows
abbrev pub ticket_numbers : List Ticket → List ℕ
ticket_numbers ts = map (λ (t : Ticket). t.number) ts

abbrev pub flow_numbers : List (NameBytes × OpenFlow) → List ℕ
flow_numbers es = map (λ (e : NameBytes × OpenFlow). e.1.number) es

-- whether a holder is this currency, and whether it is this flow
abbrev pub holder_is_currency : NameBytes → Holder → Bool
holder_is_currency c Nobody = false
holder_is_currency c (Currency d) = bytes_eq c d
holder_is_currency c (Flow f) = false

abbrev pub holder_is_flow : ℕ → Holder → Bool
holder_is_flow f Nobody = false
holder_is_flow f (Currency d) = false
holder_is_flow f (Flow g) = nat_eq f g

-- the tickets denominated in a currency
unfoldable pub denominated_in : List Ticket → NameBytes → List Ticket
denominated_in ts c = filter (λ t. bytes_eq c t.denomination) ts

-- the tickets that fund a currency
unfoldable pub backing : List Ticket → NameBytes → List Ticket
backing ts c = filter (λ t. holder_is_currency c t.holder) ts

-- the tickets that fund a flow
unfoldable pub funding : List Ticket → ℕ → List Ticket
funding ts f = filter (λ t. holder_is_flow f t.holder) ts

-- whether an open flow of this number is active
abbrev pub is_active_flow : Graph → ℕ → Bool
is_active_flow g f = list_any (λ (e : NameBytes × OpenFlow). nat_eq f e.1.number && e.1.active) g.flows

-- a holder is active if it is an active flow, or a currency in which some active ticket is denominated
abbrev pub is_active_holder : Graph → (Ticket → Bool) → Holder → Bool
is_active_holder g act Nobody = false
is_active_holder g act (Currency c) = list_any act (denominated_in g.tickets c)
is_active_holder g act (Flow f) = is_active_flow g f

-- a ticket is active within n steps
unfoldable pub act : Graph → ℕ → Ticket → Bool
act g zero t = false
act g (suc n) t = is_active_holder g (act g n) t.holder

unfoldable pub is_active : Graph → Ticket → Bool
is_active g t = act g 9 t

-- the active amount of a currency
unfoldable pub active : Graph → NameBytes → ℕ
active g c = sum_by (λ (t : Ticket). t.amount) (filter (is_active g) (denominated_in g.tickets c))

-- the worth of a ticket, given the values of the currencies
unfoldable pub worth_by : Graph → (NameBytes → ℕ) → Ticket → ℕ
worth_by g value t =
    if is_active g t
    then (if bytes_eq t.denomination base then t.amount else value t.denomination * t.amount / active g t.denomination)
    else 0

-- the value of a currency within n steps
unfoldable pub val : Graph → ℕ → NameBytes → ℕ
val g zero c = 0
val g (suc n) c = sum_by (worth_by g (val g n)) (backing g.tickets c)

unfoldable pub worth : Graph → ℕ → Ticket → ℕ
worth g n t = worth_by g (val g n) t

-- the tickets of a flow: the worth of those that fund it, at most 2^20
unfoldable pub tickets : Graph → ℕ → ℕ
tickets g f = min (2 ^ 20) (sum_by (worth g 9) (funding g.tickets f))

-- whether a ticket leads on to a currency that passes the test
abbrev pub leads_on : (NameBytes → Bool) → Holder → Bool
leads_on on Nobody = false
leads_on on (Currency c) = on c
leads_on on (Flow f) = false

-- whether a chain of n steps, each from a currency to one that it backs, goes from a to b
unfoldable pub chain : List Ticket → ℕ → NameBytes → NameBytes → Bool
chain ts zero a b = bytes_eq a b
chain ts (suc n) a b = list_any (λ t. leads_on (λ c. chain ts n c b) t.holder) (denominated_in ts a)

-- whether a chain of at most n steps does
unfoldable pub chain_within : List Ticket → ℕ → NameBytes → NameBytes → Bool
chain_within ts zero a b = chain ts 0 a b
chain_within ts (suc n) a b = chain_within ts n a b || chain ts (suc n) a b

-- whether a chain of n steps begins at a currency
unfoldable pub runs : List Ticket → ℕ → NameBytes → Bool
runs ts zero a = true
runs ts (suc n) a = list_any (λ t. leads_on (runs ts n) t.holder) (denominated_in ts a)

-- whether nine currencies besides `base` are in a chain
unfoldable pub is_deep : List Ticket → Bool
is_deep ts = list_any (λ t. not (bytes_eq t.denomination base) && runs ts 8 t.denomination) ts
