-- The lines of a book's text: what they are read as, and which event each is, if it is the next one of a book.
use Rattle.std.specs.Prelude.{◌≡◌, ◌⊎◌, ◌==◌, ℕ, ◌&&◌, List, codes, length, nat_le, replicate, take, drop}
use Rattle.std.specs.Prelude.{Option, None, Some, Result, Ok, Err, if◌then◌else◌}
use Rattle.std.specs.Str.{bytes_eq}
use Rattle.share_base.specs.Body.{BodyView, unstamped, IsUnstamped}
use Rattle.share_base.specs.declared.refusal.Refusal.{Refusal}
use Rattle.share_base.specs.declared.refusal.Refusal.TheVariants.{NoMemory, Syntax, Range}
use Rattle.share_base.specs.declared.command.Event.{Event}
use Rattle.share_base.specs.declared.command.Event.TheVariants.{Commanded, Arrived, Written}
use Rattle.share_base.specs.declared.command.Reply.{Reply}
use Rattle.share_base.specs.declared.command.Reply.TheVariants.{Done, Ticket, Flow, Closed, Packet, Refused}
use Rattle.share_base.specs.declared.version.Version.TheVariants.{Two}
use Rattle.share_model.specs.declared.line.Line.{Line}
use Rattle.share_model.specs.declared.line.Line.TheVariants.{Change, Send, Turn, Torn, Report, Audit}
use Rattle.share_model.specs.link.Live.{Live, life_is_spent}
use Rattle.share_model.specs.link.Arrivals.{arrive_step}
use Rattle.share_model.specs.link.Turns.{Sending, sending, rest_of}
use Rattle.share_model.specs.run.Sound.{max_life}
use Rattle.share_model.specs.text.Lines.{reading, words_of}
use Rattle.share_text.specs.Lengths.{length_of}
use Rattle.share_text.specs.declared.lengths.Length.{Length}
use Rattle.share_bill.specs.declared.bill.kind.Kind.{Kind}
use Rattle.share_bill.specs.declared.bill.kind.Kind.TheVariants.{Whole, Lengths}
use Rattle.share_bill.specs.declared.bill.line.Wrong.{Wrong}
use Rattle.share_bill.specs.declared.bill.line.Wrong.TheVariants.{Unread, Foreign, Spent, Untaken, Idle, Sent}

-- The first line

abbrev pub first_line : Kind → List ℕ
first_line Whole = codes "audit 2"
first_line Lengths = codes "lengths 2"

-- the kind of the text that begins with this line
abbrev pub kind_of : List ℕ → Option Kind
kind_of line =
    if bytes_eq line (codes "audit 2") then Some Whole
    else if bytes_eq line (codes "lengths 2") then Some Lengths
    else None

-- The reading of a line

-- the bytes after `send `
abbrev pub after_send : List ℕ → Option (List ℕ)
after_send bs = if nat_le 5 (length bs) && bytes_eq (take 5 bs) (codes "send ") then Some (drop 5 bs) else None

-- a packet of 1 to 9000 zeros
abbrev pub packet_of : List ℕ → ℕ → Result Line Refusal
packet_of flow count =
    if nat_le 1 count && nat_le count 9000 then Ok (Send flow (unstamped (replicate count 0))) else Err Range

abbrev pub packet_by : Option Length → Result Line Refusal
packet_by None = Err Syntax
packet_by (Some length) = packet_of length.flow length.count

abbrev pub measured_by : List ℕ → Option (List ℕ) → Result Line Refusal
measured_by bs None = reading Two bs
measured_by bs (Some rest) = packet_by (length_of (words_of rest))

-- a line of an audit of version 2. In a text of lengths a packet's line is `send NAME LENGTH`, whose bytes may be any,
-- as zeros
abbrev pub book_reading : Kind → List ℕ → Result Line Refusal
book_reading Whole bs = reading Two bs
book_reading Lengths bs = measured_by bs (after_send bs)

-- the reading, unless memory was refused
abbrev pub ReadsOrLacks : Result Line Refusal → Result Line Refusal → Type 0
ReadsOrLacks wanted found = (found ≡ wanted) ⊎ (found ≡ Err NoMemory)

-- nothing is stamped before a payload that comes
abbrev pub IsUnstampedLine : Line → Type 0
IsUnstampedLine (Change c) = Unit {0}
IsUnstampedLine (Send flow body) = IsUnstamped body
IsUnstampedLine (Turn most) = Unit {0}
IsUnstampedLine Torn = Unit {0}
IsUnstampedLine Report = Unit {0}
IsUnstampedLine (Audit version) = Unit {0}

-- The event of a line

-- a packet that is taken
abbrev pub taken_by : List ℕ → BodyView → Reply → Result Event Wrong
taken_by flow body (Packet number seq) = Ok (Arrived flow body)
taken_by flow body (Refused why) = Err (Untaken why)
taken_by flow body Done = Err Foreign
taken_by flow body (Ticket number) = Err Foreign
taken_by flow body (Flow number) = Err Foreign
taken_by flow body (Closed number dropped account) = Err Foreign

-- a turn that writes a whole frame of this many bytes
abbrev pub written_by : ℕ → Option Sending → Result Event Wrong
written_by count None = Err Idle
written_by count (Some s) = if length (rest_of s) == count then Ok (Written count) else Err (Sent (length (rest_of s)))

abbrev pub unless_spent : Live → Result Event Wrong → Result Event Wrong
unless_spent l found = if life_is_spent max_life l then Err Spent else found

-- a command, whatever it is answered; a packet that is taken; a turn that writes a whole frame of that many bytes
abbrev pub event_of : Live → Line → Result Event Wrong
event_of l (Change c) = unless_spent l (Ok (Commanded c))
event_of l (Send flow body) = unless_spent l (taken_by flow body (arrive_step l flow body.payload).1)
event_of l (Turn count) = unless_spent l (written_by count (sending l))
event_of l Torn = Err Foreign
event_of l Report = Err Foreign
event_of l (Audit version) = Err Foreign

abbrev pub event_by : Live → Result Line Refusal → Result Event Wrong
event_by l (Ok line) = event_of l line
event_by l (Err why) = Err (Unread why)

-- the event of these bytes as the next line of a book whose link holds this, or what is wrong with them
unfoldable pub next_event : Kind → Live → List ℕ → Result Event Wrong
next_event kind l bytes = event_by l (book_reading kind bytes)
