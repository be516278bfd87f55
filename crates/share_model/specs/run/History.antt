-- The history of a run: which packets were accepted and sent, what they cost, and the bytes that determine them.
use Rattle.std.specs.Prelude.{◌≡◌, ◌<◌, ◌+◌, ◌-◌, ◌*◌, ℕ, Bool, not, List, [], ◌∷◌, ◌++◌, length, take, map, flat_map}
use Rattle.std.specs.Prelude.{filter}
use Rattle.std.specs.Prelude.{sum_by, nat_eq, Option, None, Some, if◌then◌else◌}
use Rattle.share_base.specs.declared.command.Reply.TheVariants.{Packet as PacketReply}
use Rattle.share_base.specs.declared.command.Outcome.{Outcome}
use Rattle.share_base.specs.declared.command.Outcome.TheVariants.{Replied}
use Rattle.share_base.specs.declared.command.Event.{Event}
use Rattle.share_base.specs.declared.command.Event.TheVariants.{Arrived}
use Rattle.share_base.specs.declared.version.Version.{Version}
use Rattle.share_model.specs.declared.rates.Rate.{Rate}
use Rattle.share_model.specs.link.Tariff.{rate_of, units_of}
use Rattle.share_model.specs.link.Frame.{Packet, FitsFrame, frame}
use Rattle.share_model.specs.link.Buffers.{Buffer, buffer_of}
use Rattle.share_model.specs.run.Fold.{Sent, TornFrame, State, step, outcome, sent_frame}
use Rattle.share_model.specs.lists.Each.{Each}
use Rattle.share_model.specs.lists.Rises.{has_number}
use Rattle.share_model.specs.funding.Graph.{flow_numbers}

-- the packet that an event accepted: the payload that arrived, under the numbers of the answer
abbrev pub accepted_by : Event → Outcome → List Packet
accepted_by (Arrived name body) (Replied (PacketReply flow seq)) =
    record { flow = flow; seq = seq; payload = body.payload } ∷ []
accepted_by _ _ = []

-- the packets that a list of events accepted
unfoldable pub accepted_packets : List Rate → State → List Event → List Packet
accepted_packets rates s [] = []
accepted_packets rates s (e ∷ es) = accepted_by e (outcome rates s e) ++ accepted_packets rates (step rates s e) es

-- the packets of one flow
abbrev pub packets_of : ℕ → List Packet → List Packet
packets_of f hs = filter (λ (h : Packet). nat_eq f h.flow) hs

-- the packets in a buffer, from the head to the back
abbrev pub held_in : Buffer → List (List ℕ) → List Packet
held_in b [] = []
held_in b (p ∷ ps) = record { flow = b.flow; seq = b.next - length (p ∷ ps); payload = p } ∷ held_in b ps

abbrev pub packets_in_buffer : Option Buffer → List Packet
packets_in_buffer None = []
packets_in_buffer (Some b) = held_in b b.packets

-- the packets in the buffer of a flow: none if it is not open
abbrev pub queued_packets : List Buffer → ℕ → List Packet
queued_packets bs f = packets_in_buffer (buffer_of bs f)

-- the packets that were written whole
abbrev pub sent_packets : List Sent → List Packet
sent_packets done = map (λ (d : Sent). d.head) done

-- those of a flow, and their numbers
abbrev pub sent_by : ℕ → List Sent → List Sent
sent_by f done = filter (λ (d : Sent). nat_eq f d.head.flow) done

abbrev pub sent_numbers : ℕ → List Sent → List ℕ
sent_numbers f done = map (λ (d : Sent). d.head.seq) (sent_by f done)

-- the cost of n bytes of a frame under a tariff
abbrev pub cost : List Rate → ℕ → ℕ → ℕ
cost rates tariff n = (rate_of rates tariff).price * units_of (rate_of rates tariff) n

abbrev pub sent_cost : Version → List Rate → Sent → ℕ
sent_cost version rates d = cost rates d.tariff (length (sent_frame version d))

-- a torn frame costs its flow the bytes that are out
abbrev pub torn_cost : List Rate → (ℕ → Bool) → Option TornFrame → ℕ
torn_cost rates p None = 0
torn_cost rates p (Some t) = if p t.head.flow then cost rates t.tariff t.out else 0

-- the cost of the packets of certain flows: those that were written whole, and the torn one
abbrev pub cost_of : Version → List Rate → (ℕ → Bool) → List Sent → Option TornFrame → ℕ
cost_of version rates p done t =
    sum_by (sent_cost version rates) (filter (λ (d : Sent). p d.head.flow) done) + torn_cost rates p t

-- the cost of a flow's packets
abbrev pub bill : List Rate → State → ℕ → ℕ
bill rates s f = cost_of s.live.version rates (nat_eq f) s.done s.torn

-- whether a flow is not open; if it has packets, it was closed then
abbrev pub is_closed : List ℕ → ℕ → Bool
is_closed flows f = not (has_number f flows)

-- the cost of the packets of closed flows
abbrev pub past_bill : List Rate → State → ℕ
past_bill rates s = cost_of s.live.version rates (is_closed (flow_numbers s.live.graph.flows)) s.done s.torn

-- the beginning of a frame, and not the whole
pub record IsBeginning (version : Version) (x : List ℕ) : Type 0 where
  pub tariff : ℕ
  pub head : Packet
  pub fits : FitsFrame version tariff head
  pub at : ℕ
  pub few : at < length (frame version tariff head)
  pub is : x ≡ take at (frame version tariff head)

-- the packet fits a frame, with the number of its flow's tariff
abbrev pub SentFits : Version → Sent → Type 0
SentFits version d = FitsFrame version d.tariff d.head

-- bytes that are the frames of these packets, and the beginning of one more
pub record AreFramesOf (version : Version) (done : List Sent) (bytes : List ℕ) : Type 0 where
  pub fits : Each (SentFits version) done
  pub rest : List ℕ
  pub begins : IsBeginning version rest
  pub is : bytes ≡ flat_map (sent_frame version) done ++ rest
