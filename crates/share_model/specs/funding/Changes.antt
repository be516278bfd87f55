-- The effect of each command on the graph of tickets and currencies, and when it is refused. The latter is a table of
-- tests, in the order in which they are made.
use Rattle.std.specs.Prelude.{ℕ, ◌+◌, ◌^◌, Bool, true, false, not, ◌&&◌, ◌||◌, List, [], ◌∷◌, ◌++◌, map, length, find}
use Rattle.std.specs.Prelude.{nat_eq, nat_le, bytes_eq, Option, None, Some, is_some, if◌then◌else◌}
use Rattle.std.specs.List.{list_any}
use Rattle.std.specs.Map.{lookup}
use Rattle.std.specs.Set.{remove_key}
use Rattle.share_base.specs.declared.refusal.Refusal.{Refusal}
use Rattle.share_base.specs.declared.refusal.Refusal.TheVariants.{Range, NoCurrency, NoTicket, NoFlow, Taken, Base}
use Rattle.share_base.specs.declared.refusal.Refusal.TheVariants.{InUse, Funding, Unfunded, Crowded, Cycle, Deep}
use Rattle.share_base.specs.declared.refusal.Refusal.TheVariants.{TableFull}
use Rattle.share_base.specs.Refusal.{first_refusal}
use Rattle.share_model.specs.lists.Change.{change_first}
use Rattle.share_model.specs.declared.funding.Holder.{Holder}
use Rattle.share_model.specs.declared.funding.Holder.TheVariants.{Nobody, Currency, Flow}
use Rattle.share_model.specs.declared.funding.Ticket.{Ticket}
use Rattle.share_model.specs.declared.funding.OpenFlow.{OpenFlow}
use Rattle.share_model.specs.funding.Graph.{NameBytes, base, Graph, holder_is_currency, holder_is_flow, backing}
use Rattle.share_model.specs.funding.Graph.{funding, chain_within, is_deep}

-- the first ticket of a number, and its parts if there is one
abbrev pub is_numbered : ℕ → Ticket → Bool
is_numbered n t = nat_eq n t.number

abbrev pub ticket_of : Graph → ℕ → Option Ticket
ticket_of g n = find (is_numbered n) g.tickets

abbrev pub has_holder : Holder → Bool
has_holder Nobody = false
has_holder (Currency c) = true
has_holder (Flow f) = true

abbrev pub has_found_holder : Option Ticket → Bool
has_found_holder None = false
has_found_holder (Some t) = has_holder t.holder

abbrev pub found_denomination : Option Ticket → NameBytes
found_denomination None = base
found_denomination (Some t) = t.denomination

-- `base`, or a currency that was made
abbrev pub is_currency : Graph → NameBytes → Bool
is_currency g c = bytes_eq c base || list_any (bytes_eq c) g.currencies

abbrev pub flow_named : Graph → NameBytes → Option OpenFlow
flow_named g f = lookup (bytes_eq f) g.flows

-- the number of an open flow, or 0, which no flow has
abbrev pub flow_number : Option OpenFlow → ℕ
flow_number None = 0
flow_number (Some f) = f.number

-- the ticket with this holder
abbrev pub with_its_holder : Holder → Ticket → Ticket
with_its_holder h t = record t { holder = h }

-- the first ticket of a number gets this holder
abbrev pub with_holder : ℕ → Holder → List Ticket → List Ticket
with_holder n h ts = change_first (is_numbered n) (with_its_holder h) ts

-- Making and removing a currency
abbrev pub make_currency_refusal : Graph → NameBytes → Option Refusal
make_currency_refusal g c = first_refusal (
    (is_currency g c, Taken)
    ∷ (nat_le 64 (length g.currencies), TableFull)
    ∷ [])

abbrev pub make_currency : Graph → NameBytes → Graph
make_currency g c = record g { currencies = g.currencies ++ c ∷ [] }

-- whether a ticket is denominated in the currency, or funds it
abbrev pub uses : NameBytes → Ticket → Bool
uses c t = bytes_eq c t.denomination || holder_is_currency c t.holder

abbrev pub remove_currency_refusal : Graph → NameBytes → Option Refusal
remove_currency_refusal g c = first_refusal (
    (not (is_currency g c), NoCurrency)
    ∷ (bytes_eq c base, Base)
    ∷ (list_any (uses c) g.tickets, InUse)
    ∷ [])

abbrev pub remove_currency : Graph → NameBytes → Graph
remove_currency g c = record g { currencies = remove_key (bytes_eq c) g.currencies }

-- Issuing and removing a ticket
abbrev pub is_amount : ℕ → Bool
is_amount n = nat_le 1 n && nat_le n (2 ^ 20)

abbrev pub make_ticket_refusal : Graph → ℕ → NameBytes → Option Refusal
make_ticket_refusal g amount c = first_refusal (
    (not (is_amount amount), Range)
    ∷ (not (is_currency g c), NoCurrency)
    ∷ (nat_le 1024 (length g.tickets), TableFull)
    ∷ [])

abbrev pub made_ticket : Graph → ℕ → NameBytes → Ticket
made_ticket g amount c = record { number = g.next_ticket; amount = amount; denomination = c; holder = Nobody }

abbrev pub make_ticket : Graph → ℕ → NameBytes → Graph
make_ticket g amount c = record g {
  tickets = g.tickets ++ made_ticket g amount c ∷ [];
  next_ticket = g.next_ticket + 1;
}

abbrev pub remove_ticket_refusal : Graph → ℕ → Option Refusal
remove_ticket_refusal g n = first_refusal (
    (not (is_some (ticket_of g n)), NoTicket)
    ∷ (has_found_holder (ticket_of g n), Funding)
    ∷ [])

abbrev pub remove_ticket : Graph → ℕ → Graph
remove_ticket g n = record g { tickets = remove_key (is_numbered n) g.tickets }

-- the ticket with this amount
abbrev pub with_amount : ℕ → Ticket → Ticket
with_amount amount t = record t { amount = amount }

abbrev pub amend_refusal : Graph → ℕ → ℕ → Option Refusal
amend_refusal g n amount = first_refusal (
    (not (is_amount amount), Range)
    ∷ (not (is_some (ticket_of g n)), NoTicket)
    ∷ [])

-- the amount of a ticket changes in its place, whatever the ticket funds
abbrev pub amend : Graph → ℕ → ℕ → Graph
amend g n amount = record g { tickets = change_first (is_numbered n) (with_amount amount) g.tickets }

-- Funding, and its end
abbrev pub fund_currency_refusal : Graph → ℕ → NameBytes → Option Refusal
fund_currency_refusal g n c = first_refusal (
    (not (is_some (ticket_of g n)), NoTicket)
    ∷ (not (is_currency g c), NoCurrency)
    ∷ (bytes_eq c base, Base)
    ∷ (has_found_holder (ticket_of g n), Funding)
    ∷ (nat_le 16 (length (backing g.tickets c)), Crowded)
    ∷ (chain_within g.tickets 8 c (found_denomination (ticket_of g n)), Cycle)
    ∷ (is_deep (with_holder n (Currency c) g.tickets), Deep)
    ∷ [])

abbrev pub fund_currency : Graph → ℕ → NameBytes → Graph
fund_currency g n c = record g { tickets = with_holder n (Currency c) g.tickets }

abbrev pub fund_flow_refusal : Graph → ℕ → NameBytes → Option Refusal
fund_flow_refusal g n f = first_refusal (
    (not (is_some (ticket_of g n)), NoTicket)
    ∷ (not (is_some (flow_named g f)), NoFlow)
    ∷ (has_found_holder (ticket_of g n), Funding)
    ∷ (nat_le 16 (length (funding g.tickets (flow_number (flow_named g f)))), Crowded)
    ∷ [])

abbrev pub fund_flow : Graph → ℕ → NameBytes → Graph
fund_flow g n f = record g { tickets = with_holder n (Flow (flow_number (flow_named g f))) g.tickets }

abbrev pub unfund_refusal : Graph → ℕ → Option Refusal
unfund_refusal g n = first_refusal (
    (not (is_some (ticket_of g n)), NoTicket)
    ∷ (not (has_found_holder (ticket_of g n)), Unfunded)
    ∷ [])

abbrev pub unfund : Graph → ℕ → Graph
unfund g n = record g { tickets = with_holder n Nobody g.tickets }

-- Opening and closing a flow, and its activity
abbrev pub add_flow_refusal : Graph → NameBytes → Option Refusal
add_flow_refusal g f = first_refusal (
    (is_some (flow_named g f), Taken)
    ∷ (nat_le 64 (length g.flows), TableFull)
    ∷ [])

abbrev pub added_flow : Graph → OpenFlow
added_flow g = record { number = g.next_flow; active = false }

abbrev pub add_flow : Graph → NameBytes → Graph
add_flow g f = record g { flows = g.flows ++ (f, added_flow g) ∷ []; next_flow = g.next_flow + 1 }

-- the tickets that fund a closed flow lose their holder
abbrev pub release_from : ℕ → Ticket → Ticket
release_from f t = if holder_is_flow f t.holder then with_its_holder Nobody t else t

abbrev pub is_open_as : ℕ → NameBytes × OpenFlow → Bool
is_open_as f e = nat_eq f e.1.number

abbrev pub without_flow : ℕ → List (NameBytes × OpenFlow) → List (NameBytes × OpenFlow)
without_flow f es = remove_key (is_open_as f) es

abbrev pub remove_flow : Graph → ℕ → Graph
remove_flow g f = record g { tickets = map (release_from f) g.tickets; flows = without_flow f g.flows }

-- the flow, active or not
abbrev pub active_as : Bool → NameBytes × OpenFlow → NameBytes × OpenFlow
active_as b e = (e.0, record e.1 { active = b })

-- the first flow of a number is active, or not
abbrev pub with_activity : ℕ → Bool → List (NameBytes × OpenFlow) → List (NameBytes × OpenFlow)
with_activity f b es = change_first (is_open_as f) (active_as b) es

abbrev pub set_active : Graph → ℕ → Bool → Graph
set_active g f b = record g { flows = with_activity f b g.flows }
