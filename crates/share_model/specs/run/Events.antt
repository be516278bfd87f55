-- The events that a link makes. It makes none after its life. Commands and arrivals have fields that a line can spell.
-- A write or a fault comes only while the link is not broken and has a frame to send. A write has at least one byte.
use Rattle.std.specs.Prelude.{◌≡◌, ◌<◌, ◌≤◌, ℕ, false, List, [], ◌∷◌, length, take, flat_map, Option, None, Some}
use Rattle.share_base.specs.Body.{IsUnstamped}
use Rattle.share_base.specs.declared.command.Event.{Event}
use Rattle.share_base.specs.declared.command.Event.TheVariants.{Commanded, Arrived, Written, Faulted}
use Rattle.share_base.specs.declared.version.Version.{Version}
use Rattle.share_model.specs.declared.rates.Rate.{Rate}
use Rattle.share_model.specs.link.Fields.{IsName, IsBody, HasCommandFields}
use Rattle.share_model.specs.link.Live.{Live}
use Rattle.share_model.specs.link.Turns.{Sending, sending, rest_of}
use Rattle.share_model.specs.run.Fold.{State, empty_state, step}

-- the link is not broken, and this frame is sent next
pub record Sends (l : Live) (s : Sending) : Type 0 where
  pub unbroken : l.broken ≡ false
  pub is : sending l ≡ Some s

-- at least one byte of the rest of the frame, and no more than the rest
pub record IsWrite (l : Live) (k : ℕ) : Type 0 where
  pub frame : Sending
  pub sends : Sends l frame
  pub some : 0 < k
  pub fits : k ≤ length (rest_of frame)

pub record IsFault (l : Live) : Type 0 where
  pub frame : Sending
  pub sends : Sends l frame

-- the bytes that an event adds: the next ones of the frame that is sent
abbrev pub bytes_by : ℕ → Option Sending → List ℕ
bytes_by k None = []
bytes_by k (Some s) = take k (rest_of s)

abbrev pub event_bytes : Live → Event → List ℕ
event_bytes l (Commanded c) = []
event_bytes l (Arrived flow body) = []
event_bytes l (Written k) = bytes_by k (sending l)
event_bytes l Faulted = []

-- the count of an event's write, if it is one
abbrev pub write_of : Event → List ℕ
write_of (Commanded c) = []
write_of (Arrived flow body) = []
write_of (Written k) = k ∷ []
write_of Faulted = []

-- the number of bytes that the writer accepted in each write, in order
abbrev pub writes_in : List Event → List ℕ
writes_in events = flat_map write_of events

-- an event that a link may make; nothing is stamped before a payload that comes
abbrev pub MayCome : Live → Event → Type 0
MayCome l (Commanded c) = HasCommandFields c
MayCome l (Arrived flow body) = IsName flow × IsBody l.version body.payload × IsUnstamped body
MayCome l (Written k) = IsWrite l k
MayCome l Faulted = IsFault l

-- a list of events that a link may make one after another
unfoldable pub MayFollow : ℕ → List Rate → State → List Event → Type 0
MayFollow life rates s [] = Unit {0}
MayFollow life rates s (e ∷ es) =
    (s.live.counts.events < life) × MayCome s.live e × MayFollow life rates (step rates s e) es

-- a list of events that a new link may make one after another
abbrev pub MayRun : Version → ℕ → List Rate → List Event → Type 0
MayRun version life rates events = MayFollow life rates (empty_state version) events
