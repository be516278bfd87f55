-- The view of a journal in contracts, and the readings of its entries.
use Rattle.std.specs.Prelude.{ℕ, zero, suc, List, [], ◌∷◌, ◌++◌, map, slice_get, Option, None}
use Rattle.share_base.specs.Body.{unstamped}
use Rattle.share_base.specs.declared.command.Command.{Command}
use Rattle.share_base.specs.declared.command.Event.{Event}
use Rattle.share_base.specs.declared.command.Event.TheVariants.{Commanded, Arrived, Written, Faulted}
use Rattle.share_base.specs.declared.command.Outcome.{Outcome}
use Rattle.share_base.specs.declared.command.Outcome.TheVariants.{Replied, Turned}
use Rattle.share_base.specs.declared.command.Reply.{Reply}
use Rattle.share_base.specs.declared.command.Turn.{Turn}
use Rattle.share_base.specs.declared.command.Turn.TheVariants.{Wrote, Torn, Idle, Again, Broken, Spent}
use Rattle.share_base.specs.declared.version.Version.{Version}
use Rattle.share_journal.specs.declared.entry.Entry.{Entry}
use Rattle.share_journal.specs.declared.entry.Source.TheVariants.{Clerk, Worker, Link}

-- the number of entries that it has room for, the version of the link's frames, and the entries that it holds, in order
pub record JournalView : Type 0 where
  pub life : ℕ
  pub version : Version
  pub entries : List Entry

-- the entry of a number, from 1
abbrev pub entry_at : List Entry → ℕ → Option Entry
entry_at entries zero = None
entry_at entries (suc n) = slice_get entries n

-- the same journal with more entries at its end
abbrev pub with_entries : JournalView → List Entry → JournalView
with_entries journal more = record journal { entries = journal.entries ++ more }

-- The readings of a list of entries

-- the events
abbrev pub events_in : List Entry → List Event
events_in entries = map (λ (e : Entry). e.event) entries

-- the replies
abbrev pub replies_of : List Entry → List Outcome
replies_of entries = map (λ (e : Entry). e.reply) entries

-- The entry of a call

abbrev pub command_entry : ℕ → Command → Reply → Entry
command_entry clerk c reply = record { event = Commanded c; reply = Replied reply; source = Clerk clerk }

abbrev pub arrival_entry : ℕ → List ℕ → List ℕ → Reply → Entry
arrival_entry worker flow body reply =
    record { event = Arrived flow (unstamped body); reply = Replied reply; source = Worker worker }

-- a turn, or a declared fault, is an event if bytes were accepted or the frame was torn
abbrev pub turn_entries : Turn → List Entry
turn_entries (Wrote flow seq k whole) =
    record { event = Written k; reply = Turned (Wrote flow seq k whole); source = Link } ∷ []
turn_entries (Torn flow seq j) = record { event = Faulted; reply = Turned (Torn flow seq j); source = Link } ∷ []
turn_entries Idle = []
turn_entries Again = []
turn_entries Broken = []
turn_entries Spent = []
