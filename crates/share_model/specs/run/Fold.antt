-- The state of a run. It has what the link holds, the packets that were written whole, the torn one, and the bytes that
-- a run has written.
use Rattle.std.specs.Prelude.{ℕ, List, [], ◌∷◌, ◌++◌, take, flat_map, Option, None, Some, option_map}
use Rattle.std.specs.Prelude.{if◌then◌else◌}
use Rattle.share_base.specs.declared.command.Event.{Event}
use Rattle.share_base.specs.declared.command.Event.TheVariants.{Commanded, Arrived, Written, Faulted}
use Rattle.share_base.specs.declared.command.Outcome.{Outcome}
use Rattle.share_base.specs.declared.version.Version.{Version}
use Rattle.share_model.specs.declared.rates.Rate.{Rate}
use Rattle.share_model.specs.link.Frame.{Packet, frame}
use Rattle.share_model.specs.link.Live.{Live, empty_link}
use Rattle.share_model.specs.link.Turns.{Sending, frame_of, frame_in_part, sending, is_whole}
use Rattle.share_model.specs.link.Step.{live_step}

-- a packet that was written whole, and the number of its flow's tariff
pub record Sent : Type 0 where
  pub head : Packet
  pub tariff : ℕ

-- the torn packet, the number of its flow's tariff, and the bytes of its frame that were out
pub record TornFrame : Type 0 where
  pub head : Packet
  pub tariff : ℕ
  pub out : ℕ

pub record State : Type 0 where
  pub live : Live
  pub done : List Sent
  pub torn : Option TornFrame

-- the state of a new link, whose frames are of this version
abbrev pub empty_state : Version → State
empty_state version = record { live = empty_link version; done = []; torn = None }

-- the packet that a write of k bytes makes whole
abbrev pub finished_by : ℕ → Option Sending → List Sent
finished_by k None = []
finished_by k (Some s) = if is_whole s k then record { head = s.head; tariff = s.tariff } ∷ [] else []

abbrev pub sent_by_event : Live → Event → List Sent
sent_by_event l (Commanded c) = []
sent_by_event l (Arrived flow body) = []
sent_by_event l (Written k) = finished_by k (sending l)
sent_by_event l Faulted = []

abbrev pub torn_by : Sending → TornFrame
torn_by s = record { head = s.head; tariff = s.tariff; out = s.out }

abbrev pub torn_after : Live → Event → Option TornFrame → Option TornFrame
torn_after l (Commanded c) t = t
torn_after l (Arrived flow body) t = t
torn_after l (Written k) t = t
torn_after l Faulted t = option_map torn_by (sending l)

abbrev pub step : List Rate → State → Event → State
step rates s e = record {
  live = (live_step rates s.live e).0;
  done = s.done ++ sent_by_event s.live e;
  torn = torn_after s.live e s.torn;
}

abbrev pub outcome : List Rate → State → Event → Outcome
outcome rates s e = (live_step rates s.live e).1

-- the state after a list of events, and the outcomes of these
unfoldable pub state_after : List Rate → State → List Event → State
state_after rates s [] = s
state_after rates s (e ∷ es) = state_after rates (step rates s e) es

unfoldable pub outcomes : List Rate → State → List Event → List Outcome
outcomes rates s [] = []
outcomes rates s (e ∷ es) = outcome rates s e ∷ outcomes rates (step rates s e) es

-- a run from the empty link
abbrev pub run : Version → List Rate → List Event → State
run version rates events = state_after rates (empty_state version) events

-- the frame of a packet that was written whole
abbrev pub sent_frame : Version → Sent → List ℕ
sent_frame version d = frame version d.tariff d.head

-- the bytes of a frame that is not whole: the torn one's, or those of the frame in part
abbrev pub beginning : Version → Option TornFrame → Option Sending → List ℕ
beginning version (Some t) o = take t.out (frame version t.tariff t.head)
beginning version None None = []
beginning version None (Some s) = take s.out (frame_of s)

-- the bytes that a run has written: the frames of the packets written whole, and the beginning of one more
unfoldable pub out : State → List ℕ
out s = flat_map (sent_frame s.live.version) s.done
    ++ beginning s.live.version s.torn (frame_in_part s.live s.live.part)
