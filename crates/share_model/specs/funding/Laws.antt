-- Laws of the graph of tickets and currencies, each of which holds in every graph that the commands allow.
use Rattle.std.specs.Prelude.{◌≡◌, ◌≤◌, ◌↔◌, ℕ, suc, true, false, ◌+◌, ◌^◌, min, List, sum_by, bytes_eq, None}
use Rattle.share_model.specs.declared.funding.Ticket.{Ticket}
use Rattle.share_model.specs.declared.funding.OpenFlow.{OpenFlow}
use Rattle.share_model.specs.funding.Graph.{NameBytes, base, Graph, denominated_in, funding, act, is_active, active}
use Rattle.share_model.specs.funding.Graph.{val, worth, tickets, is_active_flow, chain, chain_within, is_deep}
use Rattle.share_model.specs.funding.Changes.{make_currency, remove_currency, make_ticket, remove_ticket_refusal}
use Rattle.share_model.specs.funding.Changes.{remove_ticket, fund_currency, add_flow}
use Rattle.share_model.specs.lists.Each.{Each}
use Rattle.share_model.specs.funding.WellFormed.{is_awake, cached_worth, IsCached}

-- the worth of the tickets that fund a flow together, before the cap
abbrev pub uncapped_tickets : Graph → ℕ → ℕ
uncapped_tickets g f = sum_by (worth g 9) (funding g.tickets f)

-- the issued amount of a currency: the amounts of all tickets that are denominated in it, active or not
abbrev pub issued_amount : Graph → NameBytes → ℕ
issued_amount g c = sum_by (λ (t : Ticket). t.amount) (denominated_in g.tickets c)

-- The tickets that fund all flows are together worth at most the active amount of `base`, before the cap and after it.
-- While that amount is at most 2^20, the cap lowers no sum.
pub record SharesAreWithin (g : Graph) : Type 0 where
  pub funded : sum_by (λ (e : NameBytes × OpenFlow). uncapped_tickets g e.1.number) g.flows ≤ active g base
  pub shares : sum_by (λ (e : NameBytes × OpenFlow). tickets g e.1.number) g.flows ≤ active g base
  pub cap_idle : active g base ≤ 2 ^ 20
      → Each (λ (e : NameBytes × OpenFlow). tickets g e.1.number ≡ uncapped_tickets g e.1.number) g.flows

-- Tickets without a holder count for nothing, and a flow that is idle or not open has no tickets. So these commands
-- change the tickets of no flow.
pub record LeavesTickets (g : Graph) : Type 0 where
  pub make_currency : (c : NameBytes) (f : ℕ) → tickets (make_currency g c) f ≡ tickets g f
  pub remove_currency : (c : NameBytes) (f : ℕ) → tickets (remove_currency g c) f ≡ tickets g f
  pub make_ticket : (amount : ℕ) (c : NameBytes) (f : ℕ) → tickets (make_ticket g amount c) f ≡ tickets g f
  pub remove_ticket : (n f : ℕ) → remove_ticket_refusal g n ≡ None → tickets (remove_ticket g n) f ≡ tickets g f
  pub add_flow : (name : NameBytes) (f : ℕ) → tickets (add_flow g name) f ≡ tickets g f
  pub idle : (f : ℕ) → is_active_flow g f ≡ false → tickets g f ≡ 0

-- Nine steps are enough: further ones change neither what is active nor what a currency is worth.
pub record NineStepsAreEnough (g : Graph) : Type 0 where
  pub activity : (k : ℕ) → Each (λ (t : Ticket). act g (k + 9) t ≡ is_active g t) g.tickets
  pub values : (k : ℕ) (c : NameBytes) → val g (k + 9) c ≡ val g 9 c

-- Cached amounts and values are those of the definition.
pub record IsAsDefined (g : Graph) (amount value : NameBytes → ℕ) : Type 0 where
  pub activity : Each (λ (t : Ticket). is_awake g amount t.holder ≡ is_active g t) g.tickets
  pub amounts : (c : NameBytes) → amount c ≡ active g c
  pub values : (c : NameBytes) → value c ≡ val g 9 c
  pub shares : (f : ℕ)
      → tickets g f ≡ min (2 ^ 20) (sum_by (cached_worth g amount value) (funding g.tickets f))

-- All amounts and values that meet the equations of one step are those of the definition.
abbrev pub CachedIsAsDefined : Graph → Type 0
CachedIsAsDefined g = (amount value : NameBytes → ℕ) → IsCached g amount value → IsAsDefined g amount value

-- No currency backs itself, by however many steps.
abbrev pub IsAcyclic : Graph → Type 0
IsAcyclic g = (n : ℕ) (c : NameBytes) → chain g.tickets (suc n) c c ≡ false

-- nine currencies besides `base` are in a chain, each backing the next
abbrev pub HasNineInChain : List Ticket → Type 0
HasNineInChain ts = (a : NameBytes) × ((b : NameBytes) × ((bytes_eq a base ≡ false) × (chain ts 8 a b ≡ true)))

-- Funding a currency is too deep if and only if nine would then be in a chain.
abbrev pub DeepIsNine : Graph → Type 0
DeepIsNine g = (n : ℕ) (c : NameBytes)
    → (is_deep (fund_currency g n c).tickets ≡ true) ↔ HasNineInChain (fund_currency g n c).tickets

-- Funding a currency by a ticket is a cycle if and only if the currency backs the ticket's denomination already, by
-- however many steps.
abbrev pub CycleIsBacking : Graph → Type 0
CycleIsBacking g = (c d : NameBytes)
    → (chain_within g.tickets 8 c d ≡ true) ↔ ((n : ℕ) × (chain g.tickets n c d ≡ true))
