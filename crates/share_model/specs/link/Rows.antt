-- The fold of a link, checked against worked examples: each equation holds by computation alone. The entries of a
-- finite map do not compute, so no row asks for the next flow. A frame is in part if a row begins with a write.
use Rattle.std.specs.Prelude.{◌≡◌, ℕ, true, false, List, [], ◌∷◌, ◌++◌, map, take, codes, Option, None, Some, refl}
use Rattle.share_base.specs.Body.{unstamped}
use Rattle.share_base.specs.declared.refusal.Refusal.TheVariants.{Range, NoTicket, NoFlow, NoTariff, Taken, Sending}
use Rattle.share_base.specs.declared.refusal.Refusal.TheVariants.{BufferFull}
use Rattle.share_base.specs.declared.command.Command.TheVariants.{MakeTicket, FundFlow, OpenFlow, CloseFlow}
use Rattle.share_base.specs.declared.command.Reply.TheVariants.{Done, Ticket, Flow, Closed, Packet, Refused}
use Rattle.share_base.specs.declared.command.Turn.TheVariants.{Wrote, Torn}
use Rattle.share_base.specs.declared.command.Outcome.{Outcome}
use Rattle.share_base.specs.declared.command.Outcome.TheVariants.{Replied, Turned}
use Rattle.share_base.specs.declared.command.Event.{Event}
use Rattle.share_base.specs.declared.command.Event.TheVariants.{Commanded, Arrived, Written, Faulted}
use Rattle.share_base.specs.declared.version.Version.TheVariants.{One}
use Rattle.share_model.specs.declared.link.Book.{Book}
use Rattle.share_model.specs.declared.link.Part.{Part}
use Rattle.share_model.specs.declared.rates.Rate.{Rate}
use Rattle.share_model.specs.link.Frame.{header, frame}
use Rattle.share_model.specs.lists.Change.{change_first}
use Rattle.share_model.specs.funding.Graph.{base, funding}
use Rattle.share_model.specs.link.Live.{empty_link, no_counts}
use Rattle.share_model.specs.link.Turns.{sending}
use Rattle.share_model.specs.run.Fold.{State, empty_state, state_after, outcomes, out}

-- the first two tariffs of the program's shelf
shelf : List Rate
shelf = record { cell = 1; overhead = 0; price = 1 } ∷ record { cell = 48; overhead = 16; price = 2 } ∷ []

a : List ℕ
a = codes "a"

hi : List ℕ
hi = 104 ∷ 105 ∷ []

hi_frame : List ℕ
hi_frame = 76 ∷ 1 ∷ 0 ∷ 0 ∷ 0 ∷ 1 ∷ 0 ∷ 0 ∷ 0 ∷ 1 ∷ 0 ∷ 2 ∷ 104 ∷ 105 ∷ []

-- a flow of this limit and tariff, funded by 10 tickets
funded : ℕ → ℕ → List Event
funded limit tariff =
    Commanded (OpenFlow a limit tariff) ∷ Commanded (MakeTicket 10 base) ∷ Commanded (FundFlow 1 a) ∷ []

funded_replies : List Outcome
funded_replies = Replied (Flow 1) ∷ Replied (Ticket 1) ∷ Replied Done ∷ []

-- a refused packet takes no number, and goes to no buffer

full : List Event
full =
    funded 1 1 ++ Arrived a (unstamped hi) ∷ Arrived a (unstamped hi) ∷ Commanded (CloseFlow a)
    ∷ Arrived a (unstamped hi) ∷ []

full_says : outcomes shelf (empty_state One) full
    ≡ funded_replies ++ Replied (Packet 1 1) ∷ Replied (Refused BufferFull) ∷ Replied (Closed 1 1 0)
    ∷ Replied (Refused NoFlow) ∷ []
unfolding full funded funded_replies hi shelf a outcomes change_first funding
full_says = refl

-- the refusals of a fresh link, and of a flow that is there; a name is free again once its flow is closed

refused : List Event
refused =
    Commanded (MakeTicket 0 hi) ∷ Commanded (MakeTicket 1048577 base) ∷ Commanded (FundFlow 9 hi)
    ∷ Commanded (OpenFlow a 0 9) ∷ Commanded (OpenFlow a 1 9) ∷ Commanded (CloseFlow a) ∷ Commanded (OpenFlow a 1 1)
    ∷ Commanded (OpenFlow a 1 1) ∷ Commanded (CloseFlow a) ∷ Commanded (OpenFlow a 1 1) ∷ []

refused_says : outcomes shelf (empty_state One) refused
    ≡ map (λ r. Replied (Refused r)) (Range ∷ Range ∷ NoTicket ∷ Range ∷ NoTariff ∷ NoFlow ∷ []) ++ Replied (Flow 1)
    ∷ Replied (Refused Taken) ∷ Replied (Closed 1 0 0) ∷ Replied (Flow 2) ∷ []
unfolding refused hi shelf a outcomes
refused_says = refl

-- a flow under this tariff that holds two packets, and this frame in part

abbrev part_at : ℕ → Part
part_at n = record { flow = 1; out = n }

two_packets : ℕ → Option Part → State
two_packets tariff part = record {
  live = record (empty_link One) {
    graph = record {
      currencies = [];
      tickets = [];
      next_ticket = 1;
      flows = (a, record { number = 1; active = true }) ∷ [];
      next_flow = 2;
    };
    buffers = record { flow = 1; limit = 4; next = 3; packets = hi ∷ hi ∷ [] } ∷ [];
    books = record { flow = 1; tariff = tariff; account = 0; held = false } ∷ [];
    part = part;
    counts = record no_counts { events = 3; accepted = 2 };
  };
  done = [];
  torn = None;
}

accounts : State → List Event → List ℕ
accounts s events = map (λ (b : Book). b.account) (state_after shelf s events).live.books

-- the rest of a frame, in one write and in two

one_write : List Event
one_write = Written 9 ∷ Commanded (CloseFlow a) ∷ []

one_write_says : outcomes shelf (two_packets 1 (Some (part_at 5))) one_write
    ≡ Turned (Wrote 1 1 9 true) ∷ Replied (Closed 1 1 14) ∷ []
unfolding one_write two_packets hi shelf a outcomes sending header frame change_first
one_write_says = refl

one_write_sends : out (state_after shelf (two_packets 1 (Some (part_at 5))) one_write) ≡ hi_frame
unfolding one_write two_packets hi hi_frame shelf a out state_after sending header frame change_first
one_write_sends = refl

two_writes : List Event
two_writes = Written 4 ∷ Commanded (CloseFlow a) ∷ Written 5 ∷ []

two_writes_say : outcomes shelf (two_packets 1 (Some (part_at 5))) two_writes
    ≡ Turned (Wrote 1 1 4 false) ∷ Replied (Refused Sending) ∷ Turned (Wrote 1 1 5 true) ∷ []
unfolding two_writes two_packets hi shelf a outcomes sending header frame change_first
two_writes_say = refl

two_writes_cost : accounts (two_packets 1 (Some (part_at 5))) two_writes ≡ 14 ∷ []
unfolding two_writes two_packets hi shelf a accounts state_after sending header frame change_first
two_writes_cost = refl

-- a fault after 7 bytes under cells of 48 bytes and an overhead of 16: 64 units at a price of 2. The torn packet is not
-- dropped with its flow

torn_after_seven : List Event
torn_after_seven = Faulted ∷ Commanded (CloseFlow a) ∷ []

torn_after_seven_says : outcomes shelf (two_packets 2 (Some (part_at 7))) torn_after_seven
    ≡ Turned (Torn 1 1 7) ∷ Replied (Closed 1 1 128) ∷ []
unfolding torn_after_seven two_packets hi shelf a outcomes sending header frame change_first
torn_after_seven_says = refl

torn_after_seven_sends : out (state_after shelf (two_packets 2 (Some (part_at 7))) torn_after_seven) ≡ take 7 hi_frame
unfolding torn_after_seven two_packets hi hi_frame shelf a out state_after sending header frame change_first
torn_after_seven_sends = refl

torn_after_seven_costs : accounts (two_packets 2 (Some (part_at 7))) (Faulted ∷ []) ≡ 128 ∷ []
unfolding two_packets hi shelf a accounts state_after sending header frame change_first
torn_after_seven_costs = refl

torn_after_seven_past : (state_after shelf (two_packets 2 (Some (part_at 7))) torn_after_seven).live.counts.past ≡ 128
unfolding torn_after_seven two_packets hi shelf a state_after sending header frame change_first
torn_after_seven_past = refl
