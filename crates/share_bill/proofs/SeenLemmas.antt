-- A link whose payloads are seen as images of the same lengths. Each event does to what is seen what it does to the
-- link, and is answered the same.
use Rattle.std.specs.Prelude.{◌≡◌, ◌+◌, ◌-◌, ◌&&◌, ℕ, Bool, true, false, not, List, [], ◌∷◌, ◌++◌, length, map}
use Rattle.std.specs.Prelude.{nat_eq, Option, None, Some, option_map, option_and_then, if◌then◌else◌}
use Rattle.std.specs.Set.{remove_key}
use Rattle.std.proofs.Common.{refl, ap, sym, ◌∙◌}
use Rattle.std.proofs.lemmas.List.{map-append, length-map, length-replicate}
use Rattle.std.proofs.lemmas.List.Sums.{sum_by-cons}
use Rattle.share_base.specs.Version.{header_length}
use Rattle.share_base.specs.declared.command.Command.{Command}
use Rattle.share_base.specs.declared.command.Command.TheVariants.{MakeCurrency, RemoveCurrency, MakeTicket}
use Rattle.share_base.specs.declared.command.Command.TheVariants.{RemoveTicket, FundCurrency, FundFlow, Unfund}
use Rattle.share_base.specs.declared.command.Command.TheVariants.{OpenFlow, CloseFlow, Hold, Resume, Amend}
use Rattle.share_base.specs.declared.command.Event.{Event}
use Rattle.share_base.specs.declared.command.Event.TheVariants.{Commanded, Arrived, Written, Faulted}
use Rattle.share_base.specs.declared.command.Outcome.{Outcome}
use Rattle.share_base.specs.declared.command.Reply.{Reply}
use Rattle.share_base.specs.declared.command.Reply.TheVariants.{Done, Flow, Closed, Packet as PacketReply, Refused}
use Rattle.share_base.specs.declared.refusal.Refusal.{Refusal}
use Rattle.share_base.specs.declared.refusal.Refusal.TheVariants.{BufferFull}
use Rattle.share_base.specs.declared.version.Version.{Version}
use Rattle.share_model.specs.declared.funding.OpenFlow.{OpenFlow as FlowEntry}
use Rattle.share_model.specs.declared.link.Part.{Part}
use Rattle.share_model.specs.declared.rates.Rate.{Rate}
use Rattle.share_model.specs.funding.Changes.{flow_named, flow_number, add_flow, remove_flow, set_active}
use Rattle.share_model.specs.funding.Graph.{NameBytes}
use Rattle.share_model.specs.link.Arrivals.{accept, arrive_in, arrive_by, arrive_step}
use Rattle.share_model.specs.link.Books.{is_book_of, new_book, account_of, books_with_hold, books_with_units, units_due}
use Rattle.share_model.specs.link.Books.{is_held}
use Rattle.share_model.specs.link.Buffers.{Buffer, buffer_of, close_in, count_in, pop_in, is_full}
use Rattle.share_model.specs.link.Buffers.{head_of, is_busy, map_buffer}
use Rattle.share_model.specs.link.Commands.{command_refusal, change_by_command, command_step, is_torn_of}
use Rattle.share_model.specs.link.Frame.{Packet, map_packet, frame}
use Rattle.share_model.specs.link.Live.{Live, with_level_queue, with_one_event, by_refusal}
use Rattle.share_model.specs.link.Step.{write_by, fault_by, live_step, reply_outcome, turn_outcome}
use Rattle.share_model.specs.link.Turns.{Sending, frame_of, sending_at, sending_by, sending, is_whole, in_part}
use Rattle.share_model.specs.link.Turns.{whole, wrote_turn, write_step}
use Rattle.share_model.specs.stride.Level.{level_one}
use Rattle.share_model.specs.stride.Moves.{next, add, remove, charge, total}
use Rattle.share_model.specs.run.Fold.{State, Sent, TornFrame, finished_by, sent_by_event, torn_by, torn_after, step}
use Rattle.share_model.specs.run.Fold.{outcome, state_after, outcomes, empty_state, run}
use Rattle.share_model.specs.declared.link.Totals.{Totals}
use Rattle.share_model.specs.link.Totals.{packets_in, torn_packets, torn_count, state_by, totals}
use Rattle.share_model.proofs.lemmas.link.FrameLemmas.{length-frame}
use Rattle.share_model.proofs.lemmas.link.PayloadLemmas.{buffer_of-image, count_in-image, is_full-image, is_busy-image}
use Rattle.share_model.proofs.lemmas.link.PayloadLemmas.{head_of-image, open_in-image, close_in-image, push_in-image}
use Rattle.share_model.proofs.lemmas.link.PayloadLemmas.{pop_in-image}
use Rattle.share_bill.specs.Seen.{KeepsLengths, seen_link, seen_sent, seen_torn, seen_state, seen_event}
use Rattle.share_bill.specs.Seen.{zeros_for, measured}

-- the rest of a link, seen so, and an answer
abbrev pub seen_first : {A : Type 0} → (List ℕ → List ℕ) → Live × A → Live × A
seen_first f d = (seen_link f d.0, d.1)

abbrev pub seen_sending : (List ℕ → List ℕ) → Sending → Sending
seen_sending f s = record s { head = map_packet f s.head }

module _ (f : List ℕ → List ℕ) where
  -- ---- Commands

  refusal-seen : (rates : List Rate) (l : Live) (c : Command)
      → command_refusal rates (seen_link f l) c ≡ command_refusal rates l c
  refusal-seen rates l (MakeCurrency name) = refl
  refusal-seen rates l (RemoveCurrency name) = refl
  refusal-seen rates l (MakeTicket amount currency) = refl
  refusal-seen rates l (RemoveTicket ticket) = refl
  refusal-seen rates l (FundCurrency ticket currency) = refl
  refusal-seen rates l (FundFlow ticket flow) = refl
  refusal-seen rates l (Unfund ticket) = refl
  refusal-seen rates l (OpenFlow name limit tariff) = refl
  refusal-seen rates l (CloseFlow name) = refl
  refusal-seen rates l (Hold name) = refl
  refusal-seen rates l (Resume name) = refl
  refusal-seen rates l (Amend ticket amount) = refl

  -- a flow is opened, and these are the buffers then
  opened_with : Live → NameBytes → ℕ → List Buffer → Live × Reply
  opened_with l name tariff buffers = (
    with_level_queue (record (with_one_event l) {
      graph = add_flow l.graph name;
      queue = add l.queue l.graph.next_flow;
      buffers = buffers;
      books = l.books ++ new_book l.graph.next_flow tariff ∷ [];
    }),
    Flow l.graph.next_flow,
  )

  opened-seen : (l : Live) (name : NameBytes) (limit tariff : ℕ)
      → change_by_command (seen_link f l) (OpenFlow name limit tariff)
      ≡ seen_first f (change_by_command l (OpenFlow name limit tariff))
  unfolding opened_with
  opened-seen l name limit tariff =
      ap (opened_with l name tariff) (open_in-image f l.buffers l.graph.next_flow limit)

  -- a flow is closed that had that many packets, and these are the buffers then
  closed_with : Live → ℕ → ℕ → List Buffer → Live × Reply
  closed_with l n count buffers =
      let waiting = count - (if is_torn_of n l.torn then 1 else 0) in (
        with_level_queue (record l {
          graph = remove_flow l.graph n;
          queue = remove (level_one l.queue n 0) n;
          buffers = buffers;
          books = remove_key (is_book_of n) l.books;
          torn = if is_torn_of n l.torn then None else l.torn;
          counts = record l.counts {
            events = l.counts.events + 1;
            dropped = l.counts.dropped + waiting;
            past = l.counts.past + account_of l.books n;
          };
        }),
        Closed n waiting (account_of l.books n),
      )

  closed-seen : (l : Live) (name : NameBytes)
      → change_by_command (seen_link f l) (CloseFlow name) ≡ seen_first f (change_by_command l (CloseFlow name))
  unfolding closed_with
  closed-seen l name =
      let n = flow_number (flow_named l.graph name) in
      ap (λ count. closed_with l n count (close_in (map (map_buffer f) l.buffers) n)) (count_in-image f l.buffers n)
      ∙ ap (closed_with l n (count_in l.buffers n)) (close_in-image f l.buffers n)

  -- a flow, busy or not, is held, or its hold ends
  held_with : Live → ℕ → Bool → Bool → Live × Reply
  held_with l n held busy = (
    with_level_queue (record (with_one_event l) {
      graph = set_active l.graph n (busy && not held);
      books = books_with_hold l.books n held;
    }),
    Done,
  )

  held-seen : (l : Live) (name : NameBytes)
      → change_by_command (seen_link f l) (Hold name) ≡ seen_first f (change_by_command l (Hold name))
  unfolding held_with
  held-seen l name =
      let n = flow_number (flow_named l.graph name) in
      ap (held_with (seen_link f l) n true) (is_busy-image f l.buffers n)

  resumed-seen : (l : Live) (name : NameBytes)
      → change_by_command (seen_link f l) (Resume name) ≡ seen_first f (change_by_command l (Resume name))
  unfolding held_with
  resumed-seen l name =
      let n = flow_number (flow_named l.graph name) in
      ap (held_with (seen_link f l) n false) (is_busy-image f l.buffers n)

  change-seen : (l : Live) (c : Command)
      → change_by_command (seen_link f l) c ≡ seen_first f (change_by_command l c)
  change-seen l (MakeCurrency name) = refl
  change-seen l (RemoveCurrency name) = refl
  change-seen l (MakeTicket amount currency) = refl
  change-seen l (RemoveTicket ticket) = refl
  change-seen l (FundCurrency ticket currency) = refl
  change-seen l (FundFlow ticket flow) = refl
  change-seen l (Unfund ticket) = refl
  change-seen l (OpenFlow name limit tariff) = opened-seen l name limit tariff
  change-seen l (CloseFlow name) = closed-seen l name
  change-seen l (Hold name) = held-seen l name
  change-seen l (Resume name) = resumed-seen l name
  change-seen l (Amend ticket amount) = refl

  by_refusal-seen : (l : Live) (o : Option Refusal) (done : Live × Reply)
      → by_refusal (seen_link f l) o (seen_first f done) ≡ seen_first f (by_refusal l o done)
  by_refusal-seen l None done = refl
  by_refusal-seen l (Some why) done = refl

  command-seen : (rates : List Rate) (l : Live) (c : Command)
      → command_step rates (seen_link f l) c ≡ seen_first f (command_step rates l c)
  command-seen rates l c =
      ap (λ o. by_refusal (seen_link f l) o (change_by_command (seen_link f l) c)) (refusal-seen rates l c)
      ∙ (ap (by_refusal (seen_link f l) (command_refusal rates l c)) (change-seen l c)
      ∙ by_refusal-seen l (command_refusal rates l c) (change_by_command l c))

  -- ---- Arrivals

  -- a packet is taken, and these are the buffers then
  accepted_with : Live → ℕ → ℕ → List Buffer → Live × Reply
  accepted_with l n seq buffers = (
    with_level_queue (record l {
      graph = set_active l.graph n (not (is_held l.books n));
      buffers = buffers;
      counts = record l.counts { events = l.counts.events + 1; accepted = l.counts.accepted + 1 };
    }),
    PacketReply n seq,
  )

  accepted-seen : (l : Live) (n seq : ℕ) (body : List ℕ)
      → (accept (seen_link f l) n (f body), PacketReply n seq) ≡ seen_first f (accept l n body, PacketReply n seq)
  unfolding accepted_with
  accepted-seen l n seq body = ap (accepted_with l n seq) (push_in-image f l.buffers n body)

  full-seen : (l : Live) (n : ℕ) (body : List ℕ) (b : Buffer) (full : Bool)
      → (if full then (with_one_event (seen_link f l), Refused BufferFull)
      else (accept (seen_link f l) n (f body), PacketReply n b.next))
      ≡ seen_first f
      (if full then (with_one_event l, Refused BufferFull) else (accept l n body, PacketReply n b.next))
  full-seen l n body b true = refl
  full-seen l n body b false = accepted-seen l n b.next body

  arrived_in-seen : (l : Live) (n : ℕ) (body : List ℕ) (o : Option Buffer)
      → arrive_in (seen_link f l) n (f body) (option_map (map_buffer f) o) ≡ seen_first f (arrive_in l n body o)
  arrived_in-seen l n body None = refl
  arrived_in-seen l n body (Some b) =
      ap (λ full. if full then (with_one_event (seen_link f l), Refused BufferFull)
      else (accept (seen_link f l) n (f body), PacketReply n b.next)) (is_full-image f b)
      ∙ full-seen l n body b (is_full b)

  arrived_by-seen : (l : Live) (body : List ℕ) (o : Option FlowEntry)
      → arrive_by (seen_link f l) (f body) o ≡ seen_first f (arrive_by l body o)
  arrived_by-seen l body None = refl
  arrived_by-seen l body (Some e) =
      ap (arrive_in (seen_link f l) e.number (f body)) (buffer_of-image f l.buffers e.number)
      ∙ arrived_in-seen l e.number body (buffer_of l.buffers e.number)

  pub arrive-seen : (l : Live) (name : NameBytes) (body : List ℕ)
      → arrive_step (seen_link f l) name (f body) ≡ seen_first f (arrive_step l name body)
  arrive-seen l name body = arrived_by-seen l body (flow_named l.graph name)

  -- ---- The frame that is sent

  head-seen : (l : Live) (out : ℕ) (o : Option Packet)
      → option_map (sending_at (seen_link f l) out) (option_map (map_packet f) o)
      ≡ option_map (seen_sending f) (option_map (sending_at l out) o)
  head-seen l out None = refl
  head-seen l out (Some h) = refl

  head_of-seen : (l : Live) (out n : ℕ)
      → option_map (sending_at (seen_link f l) out) (head_of (map (map_buffer f) l.buffers) n)
      ≡ option_map (seen_sending f) (option_map (sending_at l out) (head_of l.buffers n))
  head_of-seen l out n =
      ap (option_map (sending_at (seen_link f l) out)) (head_of-image f l.buffers n)
      ∙ head-seen l out (head_of l.buffers n)

  next-seen : (l : Live) (o : Option ℕ)
      → option_map (sending_at (seen_link f l) 0) (option_and_then (head_of (map (map_buffer f) l.buffers)) o)
      ≡ option_map (seen_sending f) (option_map (sending_at l 0) (option_and_then (head_of l.buffers) o))
  next-seen l None = refl
  next-seen l (Some n) = head_of-seen l 0 n

  sending_by-seen : (l : Live) (part : Option Part)
      → sending_by (seen_link f l) part ≡ option_map (seen_sending f) (sending_by l part)
  sending_by-seen l None = next-seen l (next l.queue.clients)
  sending_by-seen l (Some p) = head_of-seen l p.out p.flow

  pub sending-seen : (l : Live) → sending (seen_link f l) ≡ option_map (seen_sending f) (sending l)
  unfolding sending
  sending-seen l = sending_by-seen l l.part

module _ (f : List ℕ → List ℕ) (keeps : KeepsLengths f) where
  -- ---- Writes

  pub frame_length-seen : (version : Version) (tariff : ℕ) (h : Packet)
      → length (frame version tariff (map_packet f h)) ≡ length (frame version tariff h)
  frame_length-seen version tariff h =
      length-frame version tariff (map_packet f h)
      ∙ (ap (λ n. header_length version + n) (keeps h.payload) ∙ sym (length-frame version tariff h))

  -- a frame of that many bytes is whole; its flow is busy or not, and these are the buffers then
  whole_with : List Rate → Live → Sending → ℕ → ℕ → Bool → List Buffer → Live
  whole_with rates l s k count busy buffers =
      let units = units_due rates l.books s.head.flow count in
      with_level_queue (record l {
        graph = set_active l.graph s.head.flow (busy && not (is_held l.books s.head.flow));
        queue = charge l.queue s.head.flow units;
        buffers = buffers;
        books = books_with_units rates l.books s.head.flow units;
        part = None;
        counts = record l.counts {
          events = l.counts.events + 1;
          written = l.counts.written + 1;
          sent = l.counts.sent + k;
        };
      })

  whole-seen : (rates : List Rate) (l : Live) (s : Sending) (k : ℕ)
      → whole rates (seen_link f l) (seen_sending f s) k ≡ seen_link f (whole rates l s k)
  unfolding whole_with
  whole-seen rates l s k =
      let n = s.head.flow in
      let bs = map (map_buffer f) l.buffers in
      ap (λ count. whole_with rates l s k count (is_busy (pop_in bs n) n) (pop_in bs n))
      (frame_length-seen s.version s.tariff s.head)
      ∙ (ap (λ left. whole_with rates l s k (length (frame_of s)) (is_busy left n) left) (pop_in-image f l.buffers n)
      ∙ ap (λ busy. whole_with rates l s k (length (frame_of s)) busy (map (map_buffer f) (pop_in l.buffers n)))
      (is_busy-image f (pop_in l.buffers n) n))

  is_whole-seen : (s : Sending) (k : ℕ) → is_whole (seen_sending f s) k ≡ is_whole s k
  is_whole-seen s k = ap (nat_eq (s.out + k)) (frame_length-seen s.version s.tariff s.head)

  written-seen : (rates : List Rate) (l : Live) (s : Sending) (k : ℕ) (all : Bool)
      → (if all then (whole rates (seen_link f l) (seen_sending f s) k, wrote_turn (seen_sending f s) k true)
      else (in_part (seen_link f l) (seen_sending f s) k, wrote_turn (seen_sending f s) k false))
      ≡ seen_first f
      (if all then (whole rates l s k, wrote_turn s k true) else (in_part l s k, wrote_turn s k false))
  written-seen rates l s k true = ap (λ (now : Live). (now, wrote_turn s k true)) (whole-seen rates l s k)
  written-seen rates l s k false = refl

  write-seen : (rates : List Rate) (l : Live) (s : Sending) (k : ℕ)
      → write_step rates (seen_link f l) (seen_sending f s) k ≡ seen_first f (write_step rates l s k)
  write-seen rates l s k =
      ap (λ all. if all then (whole rates (seen_link f l) (seen_sending f s) k, wrote_turn (seen_sending f s) k true)
      else (in_part (seen_link f l) (seen_sending f s) k, wrote_turn (seen_sending f s) k false)) (is_whole-seen s k)
      ∙ written-seen rates l s k (is_whole s k)

  write_by-seen : (rates : List Rate) (l : Live) (k : ℕ) (o : Option Sending)
      → write_by rates (seen_link f l) k (option_map (seen_sending f) o) ≡ seen_first f (write_by rates l k o)
  write_by-seen rates l k None = refl
  write_by-seen rates l k (Some s) = write-seen rates l s k

  fault_by-seen : (rates : List Rate) (l : Live) (o : Option Sending)
      → fault_by rates (seen_link f l) (option_map (seen_sending f) o) ≡ seen_first f (fault_by rates l o)
  fault_by-seen rates l None = refl
  fault_by-seen rates l (Some s) = refl

  -- ---- Events

  live-seen : (rates : List Rate) (l : Live) (e : Event)
      → live_step rates (seen_link f l) (seen_event f e) ≡ seen_first f (live_step rates l e)
  live-seen rates l (Commanded c) = ap reply_outcome (command-seen f rates l c)
  live-seen rates l (Arrived flow body) = ap reply_outcome (arrive-seen f l flow body.payload)
  live-seen rates l (Written k) =
      ap (λ o. turn_outcome (write_by rates (seen_link f l) k o)) (sending-seen f l)
      ∙ ap turn_outcome (write_by-seen rates l k (sending l))
  live-seen rates l Faulted =
      ap (λ o. turn_outcome (fault_by rates (seen_link f l) o)) (sending-seen f l)
      ∙ ap turn_outcome (fault_by-seen rates l (sending l))

  finished-seen_by : (s : Sending) (all : Bool)
      → (if all then record { head = map_packet f s.head; tariff = s.tariff } ∷ [] else [])
      ≡ map (seen_sent f) (if all then record { head = s.head; tariff = s.tariff } ∷ [] else [])
  finished-seen_by s true = refl
  finished-seen_by s false = refl

  finished-seen : (k : ℕ) (o : Option Sending)
      → finished_by k (option_map (seen_sending f) o) ≡ map (seen_sent f) (finished_by k o)
  finished-seen k None = refl
  finished-seen k (Some s) =
      ap (λ all. if all then record { head = map_packet f s.head; tariff = s.tariff } ∷ [] else [])
      (is_whole-seen s k)
      ∙ finished-seen_by s (is_whole s k)

  sent-seen : (l : Live) (e : Event)
      → sent_by_event (seen_link f l) (seen_event f e) ≡ map (seen_sent f) (sent_by_event l e)
  sent-seen l (Commanded c) = refl
  sent-seen l (Arrived flow body) = refl
  sent-seen l (Written k) = ap (finished_by k) (sending-seen f l) ∙ finished-seen k (sending l)
  sent-seen l Faulted = refl

  torn_by-seen : (o : Option Sending)
      → option_map torn_by (option_map (seen_sending f) o) ≡ option_map (seen_torn f) (option_map torn_by o)
  torn_by-seen None = refl
  torn_by-seen (Some s) = refl

  torn-seen : (l : Live) (e : Event) (t : Option TornFrame)
      → torn_after (seen_link f l) (seen_event f e) (option_map (seen_torn f) t)
      ≡ option_map (seen_torn f) (torn_after l e t)
  torn-seen l (Commanded c) t = refl
  torn-seen l (Arrived flow body) t = refl
  torn-seen l (Written k) t = refl
  torn-seen l Faulted t = ap (option_map torn_by) (sending-seen f l) ∙ torn_by-seen (sending l)

  state_of : Live → List Sent → Option TornFrame → State
  state_of l done torn = record { live = l; done = done; torn = torn }

  pub step-seen : (rates : List Rate) (s : State) (e : Event)
      → step rates (seen_state f s) (seen_event f e) ≡ seen_state f (step rates s e)
  unfolding state_of
  step-seen rates s e =
      let l = seen_link f s.live in
      let gone = map (seen_sent f) s.done in
      let torn = option_map (seen_torn f) s.torn in
      ap (λ (d : Live × Outcome). state_of d.0 (gone ++ sent_by_event l (seen_event f e))
      (torn_after l (seen_event f e) torn)) (live-seen rates s.live e)
      ∙ (ap (λ (sent : List Sent). state_of (seen_link f (live_step rates s.live e).0) (gone ++ sent)
      (torn_after l (seen_event f e) torn)) (sent-seen s.live e)
      ∙ (ap (λ (sent : List Sent). state_of (seen_link f (live_step rates s.live e).0) sent
      (torn_after l (seen_event f e) torn)) (sym (map-append (seen_sent f) s.done (sent_by_event s.live e)))
      ∙ ap (state_of (seen_link f (live_step rates s.live e).0)
      (map (seen_sent f) (s.done ++ sent_by_event s.live e))) (torn-seen s.live e s.torn)))

  pub outcome-seen : (rates : List Rate) (s : State) (e : Event)
      → outcome rates (seen_state f s) (seen_event f e) ≡ outcome rates s e
  outcome-seen rates s e = ap (λ (d : Live × Outcome). d.1) (live-seen rates s.live e)

  -- ---- Runs

  pub state_after-seen : (rates : List Rate) (s : State) (es : List Event)
      → state_after rates (seen_state f s) (map (seen_event f) es) ≡ seen_state f (state_after rates s es)
  unfolding state_after
  state_after-seen rates s [] = refl
  state_after-seen rates s (e ∷ es) =
      ap (λ (now : State). state_after rates now (map (seen_event f) es)) (step-seen rates s e)
      ∙ state_after-seen rates (step rates s e) es

  pub outcomes-seen : (rates : List Rate) (s : State) (es : List Event)
      → outcomes rates (seen_state f s) (map (seen_event f) es) ≡ outcomes rates s es
  unfolding outcomes
  outcomes-seen rates s [] = refl
  outcomes-seen rates s (e ∷ es) =
      ap (λ (o : Outcome). o ∷ outcomes rates (step rates (seen_state f s) (seen_event f e)) (map (seen_event f) es))
      (outcome-seen rates s e)
      ∙ ap (λ (os : List Outcome). outcome rates s e ∷ os)
      (ap (λ (now : State). outcomes rates now (map (seen_event f) es)) (step-seen rates s e)
      ∙ outcomes-seen rates (step rates s e) es)

-- ---- Lengths alone

pub zeros-keep : KeepsLengths zeros_for
zeros-keep payload = length-replicate (length payload) 0

packets_in-seen : (f : List ℕ → List ℕ) (bs : List Buffer) → packets_in (map (map_buffer f) bs) ≡ packets_in bs
packets_in-seen f [] = refl
packets_in-seen f (b ∷ bs) =
    sum_by-cons (λ (b : Buffer). length b.packets) (map_buffer f b) (map (map_buffer f) bs)
    ∙ (ap (λ n. n + packets_in (map (map_buffer f) bs)) (length-map b.packets f)
    ∙ (ap (λ n. length b.packets + n) (packets_in-seen f bs)
    ∙ sym (sum_by-cons (λ (b : Buffer). length b.packets) b bs)))

-- the totals of a link with that many packets in its buffers
totals_with : Live → ℕ → Totals
totals_with l count = record {
  clock = l.queue.clock;
  accepted = l.counts.accepted;
  written = l.counts.written;
  torn = torn_count l.broken;
  waiting = count - torn_packets l.torn;
  dropped = l.counts.dropped;
  bytes = l.counts.sent;
  past = l.counts.past;
  tickets = total l.queue.clients;
  pass = l.queue.pass;
  link = state_by l.broken l.part;
}

pub totals-seen : (f : List ℕ → List ℕ) (l : Live) → totals (seen_link f l) ≡ totals l
unfolding totals_with
totals-seen f l = ap (totals_with l) (packets_in-seen f l.buffers)

module _ (version : Version) (rates : List Rate) (one other : List Event) (same : measured one ≡ measured other) where
  seen_run : (es : List Event) → state_after rates (empty_state version) (measured es)
      ≡ seen_state zeros_for (run version rates es)
  seen_run es = state_after-seen zeros_for zeros-keep rates (empty_state version) es

  pub replies-same : outcomes rates (empty_state version) one ≡ outcomes rates (empty_state version) other
  replies-same =
      sym (outcomes-seen zeros_for zeros-keep rates (empty_state version) one)
      ∙ (ap (outcomes rates (empty_state version)) same
      ∙ outcomes-seen zeros_for zeros-keep rates (empty_state version) other)

  pub states-same : seen_state zeros_for (run version rates one) ≡ seen_state zeros_for (run version rates other)
  states-same =
      sym (seen_run one) ∙ (ap (state_after rates (empty_state version)) same ∙ seen_run other)

  pub accounts-same : (run version rates one).live.books ≡ (run version rates other).live.books
  accounts-same = ap (λ (s : State). s.live.books) states-same

  pub clients-same : (run version rates one).live.queue ≡ (run version rates other).live.queue
  clients-same = ap (λ (s : State). s.live.queue) states-same

  pub totals-same : totals (run version rates one).live ≡ totals (run version rates other).live
  totals-same =
      sym (totals-seen zeros_for (run version rates one).live)
      ∙ (ap (λ (s : State). totals s.live) states-same ∙ totals-seen zeros_for (run version rates other).live)
