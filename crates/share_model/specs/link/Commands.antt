-- The effect of each command on a link, and when it is refused.
use Rattle.std.specs.Prelude.{ℕ, ◌+◌, ◌-◌, Bool, true, false, not, ◌&&◌, List, [], ◌∷◌, ◌++◌, length, nat_eq, nat_le}
use Rattle.std.specs.Prelude.{Option, None, Some, is_some, if◌then◌else◌, ◌≡◌, ◌≤◌}
use Rattle.std.specs.Set.{remove_key}
use Rattle.share_base.specs.Refusal.{first_refusal}
use Rattle.share_base.specs.declared.refusal.Refusal.{Refusal}
use Rattle.share_base.specs.declared.refusal.Refusal.TheVariants.{Range, NoFlow, NoTariff, Taken, TableFull, Held}
use Rattle.share_base.specs.declared.refusal.Refusal.TheVariants.{NotHeld, Sending as SendingRefusal}
use Rattle.share_base.specs.declared.command.Command.{Command}
use Rattle.share_base.specs.declared.command.Command.TheVariants.{MakeCurrency, RemoveCurrency, MakeTicket}
use Rattle.share_base.specs.declared.command.Command.TheVariants.{RemoveTicket, FundCurrency, FundFlow, Unfund}
use Rattle.share_base.specs.declared.command.Command.TheVariants.{OpenFlow, CloseFlow, Hold, Resume, Amend}
use Rattle.share_base.specs.declared.command.Reply.{Reply}
use Rattle.share_base.specs.declared.command.Reply.TheVariants.{Done, Ticket, Flow, Closed}
use Rattle.share_model.specs.declared.link.Part.{Part}
use Rattle.share_model.specs.declared.rates.Rate.{Rate}
use Rattle.share_model.specs.link.Tariff.{rate_at}
use Rattle.share_model.specs.link.Buffers.{open_in, close_in, count_in, is_busy}
use Rattle.share_model.specs.stride.Moves.{add, remove}
use Rattle.share_model.specs.stride.Level.{level_one}
use Rattle.share_model.specs.funding.Graph.{NameBytes, Graph, flow_numbers}
use Rattle.share_model.specs.funding.Changes.{make_currency_refusal, make_currency, remove_currency_refusal}
use Rattle.share_model.specs.funding.Changes.{remove_currency, make_ticket_refusal, make_ticket, remove_ticket_refusal}
use Rattle.share_model.specs.funding.Changes.{remove_ticket, fund_currency_refusal, fund_currency, fund_flow_refusal}
use Rattle.share_model.specs.funding.Changes.{fund_flow, unfund_refusal, unfund, flow_named, flow_number, add_flow}
use Rattle.share_model.specs.funding.Changes.{remove_flow, amend_refusal, amend, set_active}
use Rattle.share_model.specs.lists.Rises.{has_number}
use Rattle.share_model.specs.funding.WellFormed.{IsWellFormed}
use Rattle.share_model.specs.link.Live.{Live, with_one_event, by_refusal, with_level_queue}
use Rattle.share_model.specs.link.Books.{account_of, is_book_of, new_book, is_held, books_with_hold}

-- Commands

abbrev pub with_graph : Live → Graph → Live
with_graph l g = with_level_queue (record (with_one_event l) { graph = g })

abbrev pub open_flow_refusal : List Rate → Live → NameBytes → ℕ → ℕ → Option Refusal
open_flow_refusal rates l name limit tariff = first_refusal (
    (not (nat_le 1 limit && nat_le limit 1024), Range)
    ∷ (not (is_some (rate_at rates tariff)), NoTariff)
    ∷ (is_some (flow_named l.graph name), Taken)
    ∷ (nat_le 64 (length l.graph.flows), TableFull)
    ∷ [])

abbrev pub open_flow : Live → NameBytes → ℕ → ℕ → Live
open_flow l name limit tariff = with_level_queue (record (with_one_event l) {
  graph = add_flow l.graph name;
  queue = add l.queue l.graph.next_flow;
  buffers = open_in l.buffers l.graph.next_flow limit;
  books = l.books ++ new_book l.graph.next_flow tariff ∷ [];
})

-- whether the frame in part is of this flow, and whether the torn packet is
abbrev pub is_part_of : ℕ → Option Part → Bool
is_part_of f None = false
is_part_of f (Some p) = nat_eq f p.flow

abbrev pub is_torn_of : ℕ → Option ℕ → Bool
is_torn_of f None = false
is_torn_of f (Some g) = nat_eq f g

-- the packets in the buffer of a flow, a torn one not counted
abbrev pub waiting_of : Live → ℕ → ℕ
waiting_of l f = count_in l.buffers f - (if is_torn_of f l.torn then 1 else 0)

abbrev pub close_flow_refusal : Live → NameBytes → Option Refusal
close_flow_refusal l name = first_refusal (
    (not (is_some (flow_named l.graph name)), NoFlow)
    ∷ (is_part_of (flow_number (flow_named l.graph name)) l.part, SendingRefusal)
    ∷ [])

-- a flow is removed with its buffer and its book. If it competed, its client leaves before it is removed
abbrev pub close_flow : Live → ℕ → Live
close_flow l f = with_level_queue (record l {
  graph = remove_flow l.graph f;
  queue = remove (level_one l.queue f 0) f;
  buffers = close_in l.buffers f;
  books = remove_key (is_book_of f) l.books;
  torn = if is_torn_of f l.torn then None else l.torn;
  counts = record l.counts {
    events = l.counts.events + 1;
    dropped = l.counts.dropped + waiting_of l f;
    past = l.counts.past + account_of l.books f;
  };
})

abbrev pub closed_reply : Live → ℕ → Reply
closed_reply l f = Closed f (waiting_of l f) (account_of l.books f)

abbrev pub hold_refusal : Live → NameBytes → Option Refusal
hold_refusal l name = first_refusal (
    (not (is_some (flow_named l.graph name)), NoFlow)
    ∷ (is_held l.books (flow_number (flow_named l.graph name)), Held)
    ∷ [])

-- the flow is held or not, and active accordingly. Its frame in part goes on all the same
abbrev pub hold_flow : Live → ℕ → Bool → Live
hold_flow l f held = with_level_queue (record (with_one_event l) {
  graph = set_active l.graph f (is_busy l.buffers f && not held);
  books = books_with_hold l.books f held;
})

abbrev pub resume_refusal : Live → NameBytes → Option Refusal
resume_refusal l name = first_refusal (
    (not (is_some (flow_named l.graph name)), NoFlow)
    ∷ (not (is_held l.books (flow_number (flow_named l.graph name))), NotHeld)
    ∷ [])

-- a command for which memory may be refused
abbrev pub takes_memory : Command → Bool
takes_memory (MakeCurrency name) = true
takes_memory (RemoveCurrency name) = false
takes_memory (MakeTicket amount currency) = true
takes_memory (RemoveTicket ticket) = false
takes_memory (FundCurrency ticket currency) = false
takes_memory (FundFlow ticket flow) = false
takes_memory (Unfund ticket) = false
takes_memory (OpenFlow name limit tariff) = true
takes_memory (CloseFlow name) = false
takes_memory (Hold name) = false
takes_memory (Resume name) = false
takes_memory (Amend ticket amount) = false

abbrev pub command_refusal : List Rate → Live → Command → Option Refusal
command_refusal rates l (MakeCurrency name) = make_currency_refusal l.graph name
command_refusal rates l (RemoveCurrency name) = remove_currency_refusal l.graph name
command_refusal rates l (MakeTicket amount currency) = make_ticket_refusal l.graph amount currency
command_refusal rates l (RemoveTicket ticket) = remove_ticket_refusal l.graph ticket
command_refusal rates l (FundCurrency ticket currency) = fund_currency_refusal l.graph ticket currency
command_refusal rates l (FundFlow ticket flow) = fund_flow_refusal l.graph ticket flow
command_refusal rates l (Unfund ticket) = unfund_refusal l.graph ticket
command_refusal rates l (OpenFlow name limit tariff) = open_flow_refusal rates l name limit tariff
command_refusal rates l (CloseFlow name) = close_flow_refusal l name
command_refusal rates l (Hold name) = hold_refusal l name
command_refusal rates l (Resume name) = resume_refusal l name
command_refusal rates l (Amend ticket amount) = amend_refusal l.graph ticket amount

abbrev pub change_by_command : Live → Command → Live × Reply
change_by_command l (MakeCurrency name) = (with_graph l (make_currency l.graph name), Done)
change_by_command l (RemoveCurrency name) = (with_graph l (remove_currency l.graph name), Done)
change_by_command l (MakeTicket amount currency) =
    (with_graph l (make_ticket l.graph amount currency), Ticket l.graph.next_ticket)
change_by_command l (RemoveTicket ticket) = (with_graph l (remove_ticket l.graph ticket), Done)
change_by_command l (FundCurrency ticket currency) = (with_graph l (fund_currency l.graph ticket currency), Done)
change_by_command l (FundFlow ticket flow) = (with_graph l (fund_flow l.graph ticket flow), Done)
change_by_command l (Unfund ticket) = (with_graph l (unfund l.graph ticket), Done)
change_by_command l (OpenFlow name limit tariff) = (open_flow l name limit tariff, Flow l.graph.next_flow)
change_by_command l (CloseFlow name) =
    let f = flow_number (flow_named l.graph name) in (close_flow l f, closed_reply l f)
change_by_command l (Hold name) = (hold_flow l (flow_number (flow_named l.graph name)) true, Done)
change_by_command l (Resume name) = (hold_flow l (flow_number (flow_named l.graph name)) false, Done)
change_by_command l (Amend ticket amount) = (with_graph l (amend l.graph ticket amount), Done)

abbrev pub command_step : List Rate → Live → Command → Live × Reply
command_step rates l c = by_refusal l (command_refusal rates l c) (change_by_command l c)

-- a graph with other currencies and tickets: the flows are those of before, at most one ticket number was given, and
-- the graph is kept
pub record IsFunded (before now : Graph) : Type 0 where
  pub flows : now.flows ≡ before.flows
  pub next_flow : now.next_flow ≡ before.next_flow
  pub next_ticket : now.next_ticket ≤ before.next_ticket + 1
  pub kept : IsWellFormed before → IsWellFormed now

-- the flow is open, and its frame is not in part
pub record IsClosable (l : Live) (f : ℕ) : Type 0 where
  pub stands : has_number f (flow_numbers l.graph.flows) ≡ true
  pub unsent : is_part_of f l.part ≡ false
