-- The invariant of a graph of tickets and currencies after any list of commands.
use Rattle.std.specs.Prelude.{◌≡◌, ◌≤◌, ℕ, ◌*◌, ◌/◌, ◌^◌, Bool, false, List, ◌∷◌, length, sum_by, count_by, nat_eq}
use Rattle.std.specs.Prelude.{nat_lt, bytes_eq, if◌then◌else◌}
use Rattle.share_model.specs.lists.Each.{Each}
use Rattle.share_model.specs.lists.Rises.{Rises}
use Rattle.share_model.specs.declared.funding.Holder.{Holder}
use Rattle.share_model.specs.declared.funding.Holder.TheVariants.{Nobody, Currency, Flow}
use Rattle.share_model.specs.declared.funding.Ticket.{Ticket}
use Rattle.share_model.specs.declared.funding.OpenFlow.{OpenFlow}
use Rattle.share_model.specs.funding.Graph.{NameBytes, base, Graph, ticket_numbers, flow_numbers, denominated_in}
use Rattle.share_model.specs.funding.Graph.{backing}
use Rattle.share_model.specs.funding.Graph.{funding, holder_is_currency, is_active_flow, chain}

-- `base`, and the currencies that were made
abbrev pub names_of : Graph → List NameBytes
names_of g = base ∷ g.currencies

-- the number of times that a name is in a list of names, and a name and a number among open flows
abbrev pub times : NameBytes → List NameBytes → ℕ
times c cs = count_by (λ d. bytes_eq d c) cs

abbrev pub times_named : NameBytes → List (NameBytes × OpenFlow) → ℕ
times_named f es = count_by (λ (e : NameBytes × OpenFlow). bytes_eq e.0 f) es

abbrev pub times_open : ℕ → List (NameBytes × OpenFlow) → ℕ
times_open f es = count_by (λ (e : NameBytes × OpenFlow). nat_eq e.1.number f) es

-- no two currencies have one name, no two flows one name or number, and each ticket's denomination is a currency
pub record IsWellNamed (g : Graph) : Type 0 where
  pub names : (c : NameBytes) → times c (names_of g) ≤ 1
  pub flow_names : (f : NameBytes) → times_named f g.flows ≤ 1
  pub numbers : (f : ℕ) → times_open f g.flows ≤ 1
  pub known : Each (λ (t : Ticket). 1 ≤ times t.denomination (names_of g)) g.tickets

-- `base` has no backing, and no nine currencies besides `base` are in a chain
pub record IsShallow (g : Graph) : Type 0 where
  pub unbacked : Each (λ (t : Ticket). holder_is_currency base t.holder ≡ false) g.tickets
  pub short : (a b : NameBytes) → bytes_eq a base ≡ false → chain g.tickets 8 a b ≡ false

-- a holder is a currency or an open flow of the graph
abbrev pub IsHolderKnown : Graph → Holder → Type 0
IsHolderKnown g Nobody = Unit {0}
IsHolderKnown g (Currency c) = 1 ≤ times c (names_of g)
IsHolderKnown g (Flow f) = 1 ≤ times_open f g.flows

-- Numbers were given in turn from 1: they rise in the order of making and of opening, and are below the next ones.
pub record IsNumbered (g : Graph) : Type 0 where
  pub tickets : Rises g.next_ticket (0 ∷ ticket_numbers g.tickets)
  pub flows : Rises g.next_flow (0 ∷ flow_numbers g.flows)

-- at most 16 tickets fund a currency, or a flow
pub record IsUncrowded (g : Graph) : Type 0 where
  pub currencies : (c : NameBytes) → length (backing g.tickets c) ≤ 16
  pub flows : (f : ℕ) → length (funding g.tickets f) ≤ 16

-- The invariant of the graph.
pub record IsWellFormed (g : Graph) : Type 0 where
  pub sound : IsWellNamed g
  pub shallow : IsShallow g
  pub numbered : IsNumbered g
  pub uncrowded : IsUncrowded g
  pub held : Each (λ (t : Ticket). IsHolderKnown g t.holder) g.tickets
  pub amounts : Each (λ (t : Ticket). (1 ≤ t.amount) × (t.amount ≤ 2 ^ 20)) g.tickets
  pub few_tickets : length g.tickets ≤ 1024
  pub few_currencies : length g.currencies ≤ 64
  pub few_flows : length g.flows ≤ 64

-- A currency is awake if its kept amount is not zero, a flow if it is active.
abbrev pub is_awake : Graph → (NameBytes → ℕ) → Holder → Bool
is_awake g amount Nobody = false
is_awake g amount (Currency c) = nat_lt 0 (amount c)
is_awake g amount (Flow f) = is_active_flow g f

-- the worth of a ticket, by the amounts and values that are kept
abbrev pub cached_worth : Graph → (NameBytes → ℕ) → (NameBytes → ℕ) → Ticket → ℕ
cached_worth g amount value t =
    if is_awake g amount t.holder
    then (if bytes_eq t.denomination base then t.amount else value t.denomination * t.amount / amount t.denomination)
    else 0

-- Cached amounts and values meet the equations of one step. An amount is the sum over those tickets of the currency
-- whose holder is awake. A value is the sum of what the backing is worth.
pub record IsCached (g : Graph) (amount value : NameBytes → ℕ) : Type 0 where
  pub amounts : (c : NameBytes)
      → amount c ≡ sum_by (λ (t : Ticket). if is_awake g amount t.holder then t.amount else 0)
      (denominated_in g.tickets c)
  pub values : (c : NameBytes) → value c ≡ sum_by (cached_worth g amount value) (backing g.tickets c)
