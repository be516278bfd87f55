-- Links and events of which each payload is seen as an image of it.
use Rattle.std.specs.Prelude.{◌≡◌, ℕ, List, length, map, option_map, replicate}
use Rattle.share_base.specs.Body.{unstamped}
use Rattle.share_base.specs.declared.command.Event.{Event}
use Rattle.share_base.specs.declared.command.Event.TheVariants.{Commanded, Arrived, Written, Faulted}
use Rattle.share_model.specs.link.Buffers.{map_buffer}
use Rattle.share_model.specs.link.Frame.{map_packet}
use Rattle.share_model.specs.link.Live.{Live}
use Rattle.share_model.specs.run.Fold.{State, Sent, TornFrame}

-- an image that is as long as what it shows
abbrev pub KeepsLengths : (List ℕ → List ℕ) → Type 0
KeepsLengths f = (payload : List ℕ) → length (f payload) ≡ length payload

-- the payloads that wait
abbrev pub seen_link : (List ℕ → List ℕ) → Live → Live
seen_link f l = record l { buffers = map (map_buffer f) l.buffers }

-- those that were written whole, and the torn one
abbrev pub seen_sent : (List ℕ → List ℕ) → Sent → Sent
seen_sent f d = record { head = map_packet f d.head; tariff = d.tariff }

abbrev pub seen_torn : (List ℕ → List ℕ) → TornFrame → TornFrame
seen_torn f t = record { head = map_packet f t.head; tariff = t.tariff; out = t.out }

abbrev pub seen_state : (List ℕ → List ℕ) → State → State
seen_state f s =
    record { live = seen_link f s.live; done = map (seen_sent f) s.done; torn = option_map (seen_torn f) s.torn }

-- a payload that comes
abbrev pub seen_event : (List ℕ → List ℕ) → Event → Event
seen_event f (Commanded c) = Commanded c
seen_event f (Arrived flow body) = Arrived flow (unstamped (f body.payload))
seen_event f (Written k) = Written k
seen_event f Faulted = Faulted

-- as many zeros
abbrev pub zeros_for : List ℕ → List ℕ
zeros_for payload = replicate (length payload) 0

-- this is the same for two lists of events that differ in payloads alone, of equal lengths
abbrev pub measured : List Event → List Event
measured events = map (seen_event zeros_for) events
