-- The effect of a command: the funding alone, or it opens a flow, or closes one.
use Rattle.std.specs.Prelude.{◌≡◌, ◌≤◌, ◌+◌, ℕ, Bool, true, false, not, List, Option, None, Some, is_some, bytes_eq}
use Rattle.std.specs.Prelude.{refl}
use Rattle.std.proofs.Common.{arith}
use Rattle.share_base.specs.declared.refusal.Refusal.{Refusal}
use Rattle.share_base.specs.declared.refusal.Refusal.TheVariants.{NoFlow, Sending}
use Rattle.share_base.specs.declared.command.Command.{Command}
use Rattle.share_base.specs.declared.command.Command.TheVariants.{MakeCurrency, RemoveCurrency, MakeTicket}
use Rattle.share_base.specs.declared.command.Command.TheVariants.{RemoveTicket, FundCurrency, FundFlow, Unfund}
use Rattle.share_base.specs.declared.command.Command.TheVariants.{OpenFlow, CloseFlow, Hold, Resume, Amend}
use Rattle.share_base.specs.declared.command.Reply.{Reply}
use Rattle.share_model.specs.declared.funding.OpenFlow.{OpenFlow as FlowEntry}
use Rattle.share_model.specs.declared.rates.Rate.{Rate}
use Rattle.share_model.specs.lists.Rises.{has_number}
use Rattle.share_model.specs.funding.Graph.{NameBytes, Graph, flow_numbers}
use Rattle.share_model.specs.funding.Changes.{make_currency, remove_currency, make_ticket, remove_ticket, fund_currency}
use Rattle.share_model.specs.funding.Changes.{fund_flow, unfund, flow_named, flow_number, amend}
use Rattle.share_model.specs.funding.WellFormed.{IsWellFormed}
use Rattle.share_model.proofs.lemmas.link.BufferLemmas.{number-of_named}
use Rattle.share_model.specs.link.Live.{Live, with_one_event, by_refusal}
use Rattle.share_model.specs.link.Commands.{open_flow_refusal, with_graph, open_flow, is_part_of, close_flow_refusal}
use Rattle.share_model.specs.link.Commands.{close_flow, command_refusal, change_by_command, command_step, IsClosable}
use Rattle.share_model.specs.link.Commands.{IsFunded, hold_refusal, resume_refusal, hold_flow}
use Rattle.share_model.proofs.lemmas.funding.RefusalLemmas.{not-refused}
use Rattle.share_model.proofs.lemmas.funding.CurrencyLemmas.{well_formed-make_currency, well_formed-remove_currency}
use Rattle.share_model.proofs.lemmas.funding.TicketLemmas.{well_formed-make_ticket, well_formed-remove_ticket}
use Rattle.share_model.proofs.lemmas.funding.TicketLemmas.{well_formed-fund_currency}
use Rattle.share_model.proofs.lemmas.funding.TicketLemmas.{well_formed-fund_flow, well_formed-unfund, well_formed-amend}

same_flows : (g now : Graph) → now.flows ≡ g.flows → now.next_flow ≡ g.next_flow
    → now.next_ticket ≤ g.next_ticket + 1 → (IsWellFormed g → IsWellFormed now) → IsFunded g now
same_flows g now flows next few kept = record { flows = flows; next_flow = next; next_ticket = few; kept = kept }

named_number : (g : Graph) (name : NameBytes) (o : Option FlowEntry) → flow_named g name ≡ o
    → not (is_some o) ≡ false → has_number (flow_number o) (flow_numbers g.flows) ≡ true
named_number g name None is found = cc
named_number g name (Some e) is found = number-of_named (bytes_eq name) g.flows e is

-- a flow that a command closes
pub closable : (l : Live) (name : NameBytes) → close_flow_refusal l name ≡ None
    → IsClosable l (flow_number (flow_named l.graph name))
closable l name allowed =
    let one = not-refused (not (is_some (flow_named l.graph name))) NoFlow _ allowed in
    let two = not-refused (is_part_of (flow_number (flow_named l.graph name)) l.part) Sending _ one.1 in
    record { stands = named_number l.graph name (flow_named l.graph name) refl one.0; unsent = two.0 }

-- a flow that a command holds, or whose hold it ends
pub open-held : (l : Live) (name : NameBytes) → hold_refusal l name ≡ None
    → has_number (flow_number (flow_named l.graph name)) (flow_numbers l.graph.flows) ≡ true
open-held l name allowed =
    named_number l.graph name (flow_named l.graph name) refl
    (not-refused (not (is_some (flow_named l.graph name))) NoFlow _ allowed).0

pub open-resumed : (l : Live) (name : NameBytes) → resume_refusal l name ≡ None
    → has_number (flow_number (flow_named l.graph name)) (flow_numbers l.graph.flows) ≡ true
open-resumed l name allowed =
    named_number l.graph name (flow_named l.graph name) refl
    (not-refused (not (is_some (flow_named l.graph name))) NoFlow _ allowed).0

-- a fact that holds after each change of the funding, opening, closing, hold and end of one holds after a command that
-- is not refused
pub allowed-cases : (P : Live → Type 0) (rates : List Rate) (l : Live) (c : Command)
    → command_refusal rates l c ≡ None → ((g : Graph) → IsFunded l.graph g → P (with_graph l g))
    → ((name : NameBytes) (limit tariff : ℕ) → open_flow_refusal rates l name limit tariff ≡ None
    → P (open_flow l name limit tariff)) → ((f : ℕ) → IsClosable l f → P (close_flow l f))
    → ((f : ℕ) (held : Bool) → has_number f (flow_numbers l.graph.flows) ≡ true → P (hold_flow l f held))
    → P (change_by_command l c).0
allowed-cases P rates l (MakeCurrency name) allowed funded opened closed held =
    funded (make_currency l.graph name)
    (same_flows l.graph _ refl refl (omega arith) (λ ok. well_formed-make_currency l.graph ok name allowed))
allowed-cases P rates l (RemoveCurrency name) allowed funded opened closed held =
    funded (remove_currency l.graph name)
    (same_flows l.graph _ refl refl (omega arith) (λ ok. well_formed-remove_currency l.graph ok name allowed))
allowed-cases P rates l (MakeTicket amount currency) allowed funded opened closed held =
    funded (make_ticket l.graph amount currency)
    (same_flows l.graph _ refl refl (omega arith) (λ ok. well_formed-make_ticket l.graph ok amount currency allowed))
allowed-cases P rates l (RemoveTicket ticket) allowed funded opened closed held =
    funded (remove_ticket l.graph ticket)
    (same_flows l.graph _ refl refl (omega arith) (λ ok. well_formed-remove_ticket l.graph ok ticket))
allowed-cases P rates l (FundCurrency ticket currency) allowed funded opened closed held =
    funded (fund_currency l.graph ticket currency)
    (same_flows l.graph _ refl refl (omega arith) (λ ok. well_formed-fund_currency l.graph ok ticket currency allowed))
allowed-cases P rates l (FundFlow ticket flow) allowed funded opened closed held =
    funded (fund_flow l.graph ticket flow)
    (same_flows l.graph _ refl refl (omega arith) (λ ok. well_formed-fund_flow l.graph ok ticket flow allowed))
allowed-cases P rates l (Unfund ticket) allowed funded opened closed held =
    funded (unfund l.graph ticket)
    (same_flows l.graph _ refl refl (omega arith) (λ ok. well_formed-unfund l.graph ok ticket))
allowed-cases P rates l (OpenFlow name limit tariff) allowed funded opened closed held =
    opened name limit tariff allowed
allowed-cases P rates l (CloseFlow name) allowed funded opened closed held =
    closed (flow_number (flow_named l.graph name)) (closable l name allowed)
allowed-cases P rates l (Hold name) allowed funded opened closed held =
    held (flow_number (flow_named l.graph name)) true (open-held l name allowed)
allowed-cases P rates l (Resume name) allowed funded opened closed held =
    held (flow_number (flow_named l.graph name)) false (open-resumed l name allowed)
allowed-cases P rates l (Amend ticket amount) allowed funded opened closed held =
    funded (amend l.graph ticket amount)
    (same_flows l.graph _ refl refl (omega arith) (λ ok. well_formed-amend l.graph ok ticket amount allowed))

by_refusal_cases : (P : Live → Type 0) (l : Live) (o : Option Refusal) (done : Live × Reply) → P (with_one_event l)
    → (o ≡ None → P done.0) → P (by_refusal l o done).0
by_refusal_cases P l None done refused allowed = allowed refl
by_refusal_cases P l (Some e) done refused allowed = refused

-- and if it holds after a refusal, it holds after any command
pub command-cases : (P : Live → Type 0) (rates : List Rate) (l : Live) (c : Command) → P (with_one_event l)
    → ((g : Graph) → IsFunded l.graph g → P (with_graph l g))
    → ((name : NameBytes) (limit tariff : ℕ) → open_flow_refusal rates l name limit tariff ≡ None
    → P (open_flow l name limit tariff)) → ((f : ℕ) → IsClosable l f → P (close_flow l f))
    → ((f : ℕ) (held : Bool) → has_number f (flow_numbers l.graph.flows) ≡ true → P (hold_flow l f held))
    → P (command_step rates l c).0
command-cases P rates l c refused funded opened closed held =
    by_refusal_cases P l (command_refusal rates l c) (change_by_command l c) refused
    (λ allowed. allowed-cases P rates l c allowed funded opened closed held)
