-- The events that a book makes.
use Rattle.std.specs.Prelude.{◌≡◌, ℕ, List, [], ◌∷◌, length, Some, ⊤}
use Rattle.share_base.specs.declared.command.Event.{Event}
use Rattle.share_base.specs.declared.command.Event.TheVariants.{Commanded, Arrived, Written, Faulted}
use Rattle.share_base.specs.declared.command.Reply.{Reply}
use Rattle.share_base.specs.declared.command.Reply.TheVariants.{Done, Ticket, Flow, Closed, Packet, Refused}
use Rattle.share_model.specs.declared.rates.Rate.{Rate}
use Rattle.share_model.specs.link.Arrivals.{arrive_step}
use Rattle.share_model.specs.link.Live.{Live}
use Rattle.share_model.specs.link.Turns.{Sending, frame_of, sending}
use Rattle.share_model.specs.run.Fold.{State, step}

-- the packet was taken
abbrev pub IsTaken : Reply → Type 0
IsTaken (Packet flow seq) = ⊤
IsTaken (Refused why) = ⊥
IsTaken Done = ⊥
IsTaken (Ticket number) = ⊥
IsTaken (Flow flow) = ⊥
IsTaken (Closed flow dropped account) = ⊥

-- the frame that is sent next has k bytes, and none of them is out
pub record IsWholeFrame (l : Live) (k : ℕ) : Type 0 where
  pub frame : Sending
  pub sends : sending l ≡ Some frame
  pub unbegun : frame.out ≡ 0
  pub whole : k ≡ length (frame_of frame)

-- a command, whatever its answer; a packet that is taken; a frame that is written as a whole
abbrev pub IsBookEvent : Live → Event → Type 0
IsBookEvent l (Commanded c) = ⊤
IsBookEvent l (Arrived flow body) = IsTaken (arrive_step l flow body.payload).1
IsBookEvent l (Written k) = IsWholeFrame l k
IsBookEvent l Faulted = ⊥

-- each event is one that a book makes
unfoldable pub AreBookEvents : List Rate → State → List Event → Type 0
AreBookEvents rates s [] = ⊤
AreBookEvents rates s (e ∷ es) = IsBookEvent s.live e × AreBookEvents rates (step rates s e) es
