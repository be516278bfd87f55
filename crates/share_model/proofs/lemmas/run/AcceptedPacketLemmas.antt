-- A law of the packets that a run accepted. Those of an open flow are, in order, those that were written whole of it
-- and those that its buffer holds. Those written whole of any flow come first.
use Rattle.std.specs.Prelude.{◌≡◌, ◌<◌, ◌≤◌, ℕ, Bool, true, false, not, ◌&&◌, ◌||◌, List, [], ◌∷◌, ◌++◌, nat_eq}
use Rattle.std.specs.Prelude.{Option, None, Some, is_some, if◌then◌else◌}
use Rattle.std.specs.Set.{remove_key}
use Rattle.std.proofs.Common.{refl, ap, sym, ◌∙◌, subst, arith, append_assoc}
use Rattle.std.proofs.lemmas.Bool.{cond_both, eqb-true}
use Rattle.std.proofs.lemmas.List.{append-nil, map-append}
use Rattle.std.proofs.lemmas.List.Elements.{filter-append}
use Rattle.share_base.specs.Body.{BodyView}
use Rattle.share_base.specs.declared.refusal.Refusal.TheVariants.{BufferFull}
use Rattle.share_base.specs.declared.command.Command.{Command}
use Rattle.share_base.specs.declared.command.Reply.{Reply}
use Rattle.share_base.specs.declared.command.Reply.TheVariants.{Packet as PacketReply, Refused}
use Rattle.share_base.specs.declared.command.Outcome.TheVariants.{Replied}
use Rattle.share_base.specs.declared.command.Event.{Event}
use Rattle.share_base.specs.declared.command.Event.TheVariants.{Commanded, Arrived, Written, Faulted}
use Rattle.share_base.specs.declared.version.Version.{Version}
use Rattle.share_model.specs.declared.rates.Rate.{Rate}
use Rattle.share_model.specs.declared.funding.OpenFlow.{OpenFlow as FlowEntry}
use Rattle.share_model.specs.lists.Rises.{has_number}
use Rattle.share_model.proofs.lemmas.lists.FirstItemLemmas.{has_number-last, is_some-find_number, rises-below}
use Rattle.share_model.proofs.lemmas.lists.RemovalLemmas.{has_number-remove_same, has_number-remove_other}
use Rattle.share_model.specs.funding.Graph.{NameBytes, flow_numbers}
use Rattle.share_model.specs.funding.Changes.{flow_named}
use Rattle.share_model.specs.link.Tariff.{AreInRange}
use Rattle.share_model.specs.link.Frame.{Packet}
use Rattle.share_model.specs.link.Buffers.{Buffer, buffer_of, close_in, is_full, pop_in, is_busy}
use Rattle.share_model.proofs.lemmas.link.BufferLemmas.{numbers-with_activity}
use Rattle.share_model.proofs.lemmas.link.CommandLemmas.{command-cases}
use Rattle.share_model.specs.link.Live.{Live, with_one_event}
use Rattle.share_model.specs.link.Turns.{Sending, sending}
use Rattle.share_model.specs.link.Commands.{with_graph, open_flow, close_flow, hold_flow}
use Rattle.share_model.specs.link.Books.{is_held}
use Rattle.share_model.specs.funding.Changes.{with_activity}
use Rattle.share_model.specs.link.Commands.{command_step}
use Rattle.share_model.specs.link.Arrivals.{accept, arrive_in, arrive_by, arrive_step}
use Rattle.share_model.specs.link.Turns.{is_whole, whole, in_part, torn_link}
use Rattle.share_model.specs.run.Fold.{Sent, State, empty_state, step, outcome, state_after, run}
use Rattle.share_model.specs.run.Events.{MayCome, MayFollow}
use Rattle.share_model.specs.run.Sound.{Sound, SoundState}
use Rattle.share_model.proofs.lemmas.run.SoundLinkLemmas.{sending-head, head-given, head-stands, sound-numbered}
use Rattle.share_model.proofs.lemmas.run.SoundLinkLemmas.{next-unbuffered}
use Rattle.share_model.proofs.lemmas.run.SoundCommandLemmas.{numbers-added}
use Rattle.share_model.proofs.lemmas.run.SoundClosingLemmas.{numbers-without}
use Rattle.share_model.proofs.lemmas.run.EventLemmas.{state-step, state-empty}
use Rattle.share_model.proofs.lemmas.run.ByteLemmas.{sent_of, written_as, step-written, step-failed}
use Rattle.share_model.proofs.lemmas.run.BufferedPacketLemmas.{packet, held_pushed, held_opened, held_popped}
use Rattle.share_model.proofs.lemmas.run.BufferedPacketLemmas.{held_closed}
use Rattle.share_model.specs.run.History.{accepted_by, accepted_packets, packets_of, packets_in_buffer, queued_packets}
use Rattle.share_model.specs.run.History.{sent_packets}

-- Each event

-- the first of these packets of a flow were written whole, and the others are those that its buffer holds while it is
-- open. A flow that was not opened yet has none
record AreAccepted (f : ℕ) (hs : List Packet) (l : Live) (done : List Sent) : Type 0 where
  rest : List Packet
  split : hs ≡ packets_of f (sent_packets done) ++ rest
  held : has_number f (flow_numbers l.graph.flows) ≡ true → rest ≡ queued_packets l.buffers f
  fresh : l.graph.next_flow ≤ f → rest ≡ []

-- if flows and buffers stay
accepted_same : (f : ℕ) (hs : List Packet) (l l' : Live) (done : List Sent) → l'.graph.flows ≡ l.graph.flows
    → l'.graph.next_flow ≡ l.graph.next_flow → l'.buffers ≡ l.buffers → AreAccepted f hs l done
    → AreAccepted f hs l' done
accepted_same f hs l l' done flows next buffers was = record {
  rest = was.rest;
  split = was.split;
  held =
      λ stands. was.held (ap (λ (es : List (NameBytes × FlowEntry)). has_number f (flow_numbers es)) (sym flows)
      ∙ stands) ∙ ap (λ bs. queued_packets bs f) (sym buffers);
  fresh = λ above. was.fresh (omega (arith, next));
}

-- whether a flow is active does not matter
accepted_awake : (f : ℕ) (hs : List Packet) (l l' : Live) (done : List Sent) (g : ℕ) (t : Bool)
    → l'.graph.flows ≡ with_activity g t l.graph.flows → l'.graph.next_flow ≡ l.graph.next_flow
    → l'.buffers ≡ l.buffers → AreAccepted f hs l done → AreAccepted f hs l' done
accepted_awake f hs l l' done g t flows next buffers was = record {
  rest = was.rest;
  split = was.split;
  held =
      λ stands. was.held
      (ap (has_number f) (sym (numbers-with_activity g t l.graph.flows))
      ∙ (ap (λ (es : List (NameBytes × FlowEntry)). has_number f (flow_numbers es)) (sym flows) ∙ stands))
      ∙ ap (λ bs. queued_packets bs f) (sym buffers);
  fresh = λ above. was.fresh (omega (arith, next));
}

new_held : (bs : List Buffer) (f : ℕ) → buffer_of bs f ≡ None → queued_packets bs f ≡ []
new_held bs f none = ap packets_in_buffer none

accepted_opened : {life : ℕ} {rates : List Rate} {l : Live} → Sound life rates l → (f : ℕ) (hs : List Packet)
    (done : List Sent) (name : NameBytes) (limit tariff : ℕ) → AreAccepted f hs l done
    → AreAccepted f hs (open_flow l name limit tariff) done
accepted_opened {l = l} sound f hs done name limit tariff was = record {
  rest = was.rest;
  split = was.split;
  held =
      λ stands. by_flow (nat_eq f next) refl
      (sym (has_number-last next f (flow_numbers l.graph.flows))
      ∙ (ap (has_number f) (sym (numbers-added l.graph name)) ∙ stands))
      ∙ sym (held_opened l.buffers next limit f);
  fresh = λ above. was.fresh (omega arith);
}
  where
    next : ℕ
    next = l.graph.next_flow

    by_flow : (b : Bool) → nat_eq f next ≡ b → (b || has_number f (flow_numbers l.graph.flows)) ≡ true
        → was.rest ≡ queued_packets l.buffers f
    by_flow true test stands =
        let same : f ≡ next = eqb-true f next test in
        was.fresh (omega (arith, same))
        ∙ sym (ap (queued_packets l.buffers) same ∙ new_held l.buffers next (next-unbuffered sound))
    by_flow false test stands = was.held stands

accepted_closed : {life : ℕ} {rates : List Rate} {l : Live} → Sound life rates l → (f : ℕ) (hs : List Packet)
    (done : List Sent) (g : ℕ) → AreAccepted f hs l done → AreAccepted f hs (close_flow l g) done
accepted_closed {l = l} sound f hs done g was = record {
  rest = was.rest;
  split = was.split;
  held =
      λ stands. by_flow (nat_eq f g) refl
      (ap (has_number f) (sym (numbers-without g l.graph.flows)) ∙ stands);
  fresh = was.fresh;
}
  where
    by_flow : (b : Bool) → nat_eq f g ≡ b → has_number f (remove_key (nat_eq g) (flow_numbers l.graph.flows)) ≡ true
        → was.rest ≡ queued_packets (close_in l.buffers g) f
    by_flow true test stands =
        let none : false ≡ true =
        sym (has_number-remove_same l.graph.next_flow g (flow_numbers l.graph.flows) (sound-numbered sound))
        ∙ (ap (λ n. has_number n (remove_key (nat_eq g) (flow_numbers l.graph.flows))) (sym (eqb-true f g test))
        ∙ stands) in
        cc
    by_flow false test stands =
        was.held (sym (has_number-remove_other g f test (flow_numbers l.graph.flows)) ∙ stands)
        ∙ sym (held_closed l.buffers g f test)

accepted_commanded : {life : ℕ} {rates : List Rate} {l : Live} → Sound life rates l → (f : ℕ) (hs : List Packet)
    (done : List Sent) (c : Command) → AreAccepted f hs l done → AreAccepted f hs (command_step rates l c).0 done
accepted_commanded {rates = rates} {l = l} sound f hs done c was =
    command-cases (λ (l' : Live). AreAccepted f hs l' done) rates l c
    (accepted_same f hs l (with_one_event l) done refl refl refl was)
    (λ g funded. accepted_same f hs l (with_graph l g) done funded.flows funded.next_flow refl was)
    (λ name limit tariff allowed. accepted_opened sound f hs done name limit tariff was)
    (λ g may. accepted_closed sound f hs done g was)
    (λ g held stands. accepted_awake f hs l (hold_flow l g held) done g (is_busy l.buffers g && not held) refl refl refl
    was)

accepted_none : (f : ℕ) (hs : List Packet) (l : Live) (done : List Sent) → AreAccepted f hs l done
    → AreAccepted f (hs ++ []) l done
accepted_none f hs l done was = subst (λ hs. AreAccepted f hs l done) (sym (append-nil hs)) was

-- a packet comes
accepted_pushed : {life : ℕ} {rates : List Rate} {l : Live} → Sound life rates l → (f : ℕ) (hs : List Packet)
    (done : List Sent) (n : ℕ) (body : List ℕ) (b : Buffer) → buffer_of l.buffers n ≡ Some b
    → AreAccepted f hs l done
    → AreAccepted f (hs ++ packets_of f (packet n body b.next ∷ [])) (accept l n body) done
accepted_pushed {l = l} sound f hs done n body b found was =
    let more : List Packet = packets_of f (packet n body b.next ∷ []) in
    record {
      rest = was.rest ++ more;
      split =
          ap (λ hs. hs ++ more) was.split
          ∙ append_assoc (packets_of f (sent_packets done)) was.rest more;
      held =
          λ stands. ap (λ hs. hs ++ more)
          (was.held
          (ap (has_number f) (sym (numbers-with_activity n (not (is_held l.books n)) l.graph.flows)) ∙ stands))
          ∙ sym (held_pushed l.buffers n body b found f (nat_eq f n) refl);
      fresh = λ above. ap (λ hs. hs ++ more) (was.fresh above) ∙ by_flow above (nat_eq f n) refl;
    }
  where
    given : n < l.graph.next_flow
    given = rises-below l.graph.next_flow n (flow_numbers l.graph.flows) (sound-numbered sound)
        (sym (ap (has_number n) sound.flows.buffered)
        ∙ (sym (is_some-find_number (λ (b : Buffer). b.flow) n l.buffers) ∙ ap is_some found))

    by_flow : l.graph.next_flow ≤ f → (k : Bool) → nat_eq f n ≡ k
        → (if k then packet n body b.next ∷ [] else []) ≡ []
    by_flow above true test = let same : f ≡ n = eqb-true f n test in absurd (omega (arith, given))
    by_flow above false test = refl

accepted_in : {life : ℕ} {rates : List Rate} {l : Live} → Sound life rates l → (f : ℕ) (hs : List Packet)
    (done : List Sent) (name : NameBytes) (n : ℕ) (body : BodyView) (o : Option Buffer) → buffer_of l.buffers n ≡ o
    → AreAccepted f hs l done
    → AreAccepted f (hs ++ packets_of f (accepted_by (Arrived name body) (Replied (arrive_in l n body.payload o).1)))
    (arrive_in l n body.payload o).0 done
accepted_in {l = l} sound f hs done name n body None found was =
    accepted_none f hs (with_one_event l) done (accepted_same f hs l (with_one_event l) done refl refl refl was)
accepted_in {l = l} sound f hs done name n body (Some b) found was =
    cond_both (is_full b) (with_one_event l, Refused BufferFull) (accept l n body.payload, PacketReply n b.next)
    (λ (d : Live × Reply). AreAccepted f (hs ++ packets_of f (accepted_by (Arrived name body) (Replied d.1))) d.0 done)
    (λ _. accepted_none f hs (with_one_event l) done (accepted_same f hs l (with_one_event l) done refl refl refl was))
    (λ _. accepted_pushed sound f hs done n body.payload b found was)

accepted_arrived : {life : ℕ} {rates : List Rate} {l : Live} → Sound life rates l → (f : ℕ) (hs : List Packet)
    (done : List Sent) (name : NameBytes) (body : BodyView) (o : Option FlowEntry) → AreAccepted f hs l done
    → AreAccepted f (hs ++ packets_of f (accepted_by (Arrived name body) (Replied (arrive_by l body.payload o).1)))
    (arrive_by l body.payload o).0 done
accepted_arrived {l = l} sound f hs done name body None was =
    accepted_none f hs (with_one_event l) done (accepted_same f hs l (with_one_event l) done refl refl refl was)
accepted_arrived {l = l} sound f hs done name body (Some e) was =
    accepted_in sound f hs done name e.number body (buffer_of l.buffers e.number) refl was

sent_more : (done : List Sent) (d : Sent) (f : ℕ)
    → packets_of f (sent_packets (done ++ d ∷ [])) ≡ packets_of f (sent_packets done) ++ packets_of f (d.head ∷ [])
sent_more done d f =
    ap (packets_of f) (map-append (λ (d : Sent). d.head) done (d ∷ []))
    ∙ filter-append (λ (h : Packet). nat_eq f h.flow) (sent_packets done) (d.head ∷ [])

-- a packet that was written whole is the first of those that the buffer held
accepted_whole : {life : ℕ} {rates : List Rate} {l : Live} → Sound life rates l → (f : ℕ) (hs : List Packet)
    (done : List Sent) (snd : Sending) (k : ℕ) → sending l ≡ Some snd → AreAccepted f hs l done
    → (b : Bool) → nat_eq f snd.head.flow ≡ b
    → AreAccepted f hs (whole rates l snd k) (done ++ sent_of snd ∷ [])
accepted_whole {l = l} sound f hs done snd k is was true test =
    let g = snd.head.flow in
    let same : f ≡ g = eqb-true f g test in
    let stands : has_number f (flow_numbers l.graph.flows) ≡ true =
    ap (λ n. has_number n (flow_numbers l.graph.flows)) same ∙ head-stands sound g (sending-head sound is) in
    let taken : snd.head ∷ queued_packets (pop_in l.buffers g) f ≡ queued_packets l.buffers f =
    held_popped l.buffers snd.head (sending-head sound is) f true test in
    record {
      rest = queued_packets (pop_in l.buffers g) f;
      split =
          was.split
          ∙ (ap (λ hs. packets_of f (sent_packets done) ++ hs) (was.held stands ∙ sym taken)
          ∙ (sym (append_assoc (packets_of f (sent_packets done)) (snd.head ∷ [])
          (queued_packets (pop_in l.buffers g) f))
          ∙ ap (λ hs. hs ++ queued_packets (pop_in l.buffers g) f)
          (sym (sent_more done (sent_of snd) f
          ∙ ap (λ b. packets_of f (sent_packets done) ++ (if b then snd.head ∷ [] else [])) test))));
      held = λ _. refl;
      fresh = λ above. absurd (omega (arith, head-given sound g (sending-head sound is)));
    }
accepted_whole {l = l} sound f hs done snd k is was false test =
    let g = snd.head.flow in
    record {
      rest = was.rest;
      split =
          was.split
          ∙ ap (λ hs. hs ++ was.rest)
          (sym (sent_more done (sent_of snd) f
          ∙ (ap (λ b. packets_of f (sent_packets done) ++ (if b then snd.head ∷ [] else [])) test
          ∙ append-nil (packets_of f (sent_packets done)))));
      held =
          λ stands. was.held
          (ap (has_number f)
          (sym (numbers-with_activity g (is_busy (pop_in l.buffers g) g && not (is_held l.books g)) l.graph.flows))
          ∙ stands)
          ∙ sym (held_popped l.buffers snd.head (sending-head sound is) f false test);
      fresh = was.fresh;
    }

accepted_written : {life : ℕ} {rates : List Rate} (s : State) → Sound life rates s.live → (f : ℕ) (hs : List Packet)
    (snd : Sending) (k : ℕ) → sending s.live ≡ Some snd → AreAccepted f hs s.live s.done → (b : Bool)
    → AreAccepted f hs (written_as rates s snd k b).live (written_as rates s snd k b).done
accepted_written s sound f hs snd k is was true =
    accepted_whole sound f hs s.done snd k is was (nat_eq f snd.head.flow) refl
accepted_written s sound f hs snd k is was false =
    subst (λ ds. AreAccepted f hs (in_part s.live snd k) ds) (sym (append-nil s.done))
    (accepted_same f hs s.live (in_part s.live snd k) s.done refl refl refl was)

-- each event adds the packet that it accepted
accepted_step : {life : ℕ} {rates : List Rate} {s : State} → SoundState life rates s → (e : Event)
    → MayCome s.live e → (f : ℕ) (hs : List Packet) → AreAccepted f hs s.live s.done
    → AreAccepted f (hs ++ packets_of f (accepted_by e (outcome rates s e))) (step rates s e).live (step rates s e).done
accepted_step {rates = rates} {s = s} sound (Commanded c) may f hs was =
    subst (λ ds. AreAccepted f (hs ++ []) (command_step rates s.live c).0 ds) (sym (append-nil s.done))
    (accepted_none f hs (command_step rates s.live c).0 s.done (accepted_commanded sound.live f hs s.done c was))
accepted_step {s = s} sound (Arrived name body) may f hs was =
    subst (λ ds. AreAccepted f
    (hs ++ packets_of f (accepted_by (Arrived name body) (Replied (arrive_step s.live name body.payload).1)))
    (arrive_step s.live name body.payload).0 ds) (sym (append-nil s.done))
    (accepted_arrived sound.live f hs s.done name body (flow_named s.live.graph name) was)
accepted_step {rates = rates} {s = s} sound (Written k) may f hs was =
    subst (λ (n : State). AreAccepted f (hs ++ []) n.live n.done) (sym (step-written rates s k may.frame may.sends.is))
    (accepted_none f hs (written_as rates s may.frame k (is_whole may.frame k)).live
    (written_as rates s may.frame k (is_whole may.frame k)).done
    (accepted_written s sound.live f hs may.frame k may.sends.is was (is_whole may.frame k)))
accepted_step {rates = rates} {s = s} sound Faulted may f hs was =
    subst (λ (n : State). AreAccepted f (hs ++ []) n.live n.done) (sym (step-failed rates s may.frame may.sends.is))
    (subst (λ ds. AreAccepted f (hs ++ []) (torn_link rates s.live may.frame) ds) (sym (append-nil s.done))
    (accepted_none f hs (torn_link rates s.live may.frame) s.done
    (accepted_same f hs s.live (torn_link rates s.live may.frame) s.done refl refl refl was)))

-- Lists of events

accepted_after : {life : ℕ} {rates : List Rate} (s : State) (es : List Event) → AreInRange rates
    → SoundState life rates s → MayFollow life rates s es → (f : ℕ) (hs : List Packet)
    → AreAccepted f hs s.live s.done
    → AreAccepted f (hs ++ packets_of f (accepted_packets rates s es)) (state_after rates s es).live
    (state_after rates s es).done
unfolding MayFollow state_after accepted_packets
accepted_after s [] range sound may f hs was = accepted_none f hs s.live s.done was
accepted_after {rates = rates} s (e ∷ es) range sound may f hs was =
    let first : List Packet = accepted_by e (outcome rates s e) in
    let later : List Packet = accepted_packets rates (step rates s e) es in
    subst (λ hs. AreAccepted f hs (state_after rates (step rates s e) es).live
    (state_after rates (step rates s e) es).done)
    (append_assoc hs (packets_of f first) (packets_of f later)
    ∙ ap (λ more. hs ++ more) (sym (filter-append (λ (h : Packet). nat_eq f h.flow) first later)))
    (accepted_after (step rates s e) es range (state-step range sound may.0 e may.1) may.2 f
    (hs ++ packets_of f first) (accepted_step sound e may.1 f hs was))

none_accepted : (version : Version) (f : ℕ) → AreAccepted f [] (empty_state version).live (empty_state version).done
none_accepted version f = record { rest = []; split = refl; held = λ stands. cc; fresh = λ _. refl }

run_accepted : (version : Version) (life : ℕ) (rates : List Rate) (es : List Event) → AreInRange rates
    → MayFollow life rates (empty_state version) es → (f : ℕ)
    → AreAccepted f (packets_of f (accepted_packets rates (empty_state version) es)) (run version rates es).live
    (run version rates es).done
run_accepted version life rates es range may f =
    accepted_after (empty_state version) es range (state-empty version life rates) may f [] (none_accepted version f)

-- in every run the packets that an open flow accepted are, in order, those written whole of it and those in its buffer
pub run-accepted_packets : (version : Version) (life : ℕ) (rates : List Rate) (es : List Event) → AreInRange rates
    → MayFollow life rates (empty_state version) es → (f : ℕ)
    → has_number f (flow_numbers (run version rates es).live.graph.flows) ≡ true
    → packets_of f (accepted_packets rates (empty_state version) es)
    ≡ packets_of f (sent_packets (run version rates es).done) ++ queued_packets (run version rates es).live.buffers f
run-accepted_packets version life rates es range may f stands =
    let all = run_accepted version life rates es range may f in
    all.split ∙ ap (λ hs. packets_of f (sent_packets (run version rates es).done) ++ hs) (all.held stands)

-- and those written whole of any flow are the first of those that it accepted
pub run-sent_first : (version : Version) (life : ℕ) (rates : List Rate) (es : List Event) → AreInRange rates
    → MayFollow life rates (empty_state version) es → (f : ℕ)
    → (rest : List Packet)
    × (packets_of f (accepted_packets rates (empty_state version) es)
    ≡ packets_of f (sent_packets (run version rates es).done) ++ rest)
run-sent_first version life rates es range may f =
    let all = run_accepted version life rates es range may f in (all.rest, all.split)
