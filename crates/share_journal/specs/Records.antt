-- The view of a recorder in contracts, and its invariant at every moment.
use Rattle.std.specs.Prelude.{◌≡◌, ◌&&◌, ℕ, Bool, true, false, List, [], ◌∷◌, filter, nat_lt, nat_eq, length, Option}
use Rattle.std.specs.Prelude.{IfSome, if◌then◌else◌}
use Rattle.share_base.specs.declared.command.Event.{Event}
use Rattle.share_base.specs.declared.command.Outcome.{Outcome}
use Rattle.share_base.specs.declared.version.Version.{Version}
use Rattle.share_base.specs.declared.version.Version.TheVariants.{One, Two}
use Rattle.share_model.specs.declared.rates.Rate.{Rate}
use Rattle.share_model.specs.io.Told.{Told}
use Rattle.share_model.specs.link.Live.{Live}
use Rattle.share_model.specs.link.View.{LinkView}
use Rattle.share_model.specs.link.Tariff.{AreInRange}
use Rattle.share_model.specs.run.Ends.{IsEndOf, TellsRun}
use Rattle.share_model.specs.run.Events.{MayRun, writes_in}
use Rattle.share_model.specs.run.Fold.{empty_state, run, outcomes}
use Rattle.share_journal.specs.declared.entry.Entry.{Entry}
use Rattle.share_journal.specs.Entries.{JournalView, events_in, replies_of}

-- the link, and the entries of its journal
pub record RecorderView (W : Type 0) : Type 0 where
  pub link : LinkView W
  pub entries : List Entry

-- the events are a run of a link of this version, with these replies. The link holds what the run left. If the writer
-- reports, it holds the bytes of the run, and these are the counts that it accepted, but those of 0
pub record IsRunOf (told : Option Told) (version : Version) (life : ℕ) (rates : List Rate) (live : Live)
    (events : List Event) (replies : List Outcome) : Type 0 where
  pub range : AreInRange rates
  pub may : MayRun version life rates events
  pub replies_are : outcomes rates (empty_state version) events ≡ replies
  pub ends : IsEndOf life rates (run version rates events) live
  pub tells : IfSome told (TellsRun (run version rates events) (writes_in events))

-- the same of the events and the replies of these entries, and of the version that the link holds
abbrev pub IsRun : Option Told → ℕ → List Rate → Live → List Entry → Type 0
IsRun told life rates live entries =
    IsRunOf told live.version life rates live (events_in entries) (replies_of entries)

-- the same of a link and its journal as they are; `told` says what a writer reports
abbrev pub IsRunNow : {W : Type 0} → (W → Option Told) → LinkView W → List Entry → Type 0
IsRunNow told link entries = IsRun (told link.writer) link.life link.rates link.live entries

-- no byte was accepted yet
pub record AcceptedNothing (t : Told) : Type 0 where
  pub bytes : t.bytes ≡ []
  pub counts : filter (nat_lt 0) t.counts ≡ []

-- two versions are the same
abbrev pub is_same_version : Version → Version → Bool
is_same_version One One = true
is_same_version Two Two = true
is_same_version One Two = false
is_same_version Two One = false

-- the link made no event, the journal holds none, and both have the same life and the same version
abbrev pub are_new : {W : Type 0} → LinkView W → JournalView → Bool
are_new link journal =
    nat_eq link.live.counts.events 0 && nat_eq (length journal.entries) 0 && nat_eq link.life journal.life
    && is_same_version link.live.version journal.version

-- the call made an event, by the count of events
abbrev pub made_event : {W : Type 0} → LinkView W → LinkView W → Bool
made_event old new = nat_lt old.live.counts.events new.live.counts.events

-- one entry if the call made an event, and otherwise none
abbrev pub entry_if : Bool → Entry → List Entry
entry_if made e = if made then e ∷ [] else []
