-- The outcome of the opening of a plan on a new link of version 2, whose life is long enough.
use Rattle.std.specs.Prelude.{◌≡◌, ℕ, ◌^◌, Bool, true, false, ◌&&◌, List, [], ◌∷◌, map, flat_map, nat_le, slice_get}
use Rattle.std.specs.Prelude.{Option, None, Some}
use Rattle.std.specs.List.{zip}
use Rattle.share_base.specs.declared.command.Event.{Event}
use Rattle.share_base.specs.declared.command.Event.TheVariants.{Commanded}
use Rattle.share_base.specs.declared.command.Outcome.{Outcome}
use Rattle.share_base.specs.declared.command.Outcome.TheVariants.{Replied, Turned}
use Rattle.share_base.specs.declared.command.Reply.TheVariants.{Done, Ticket, Flow, Closed, Packet, Refused}
use Rattle.share_base.specs.declared.refusal.Refusal.{Refusal}
use Rattle.share_base.specs.declared.version.Version.TheVariants.{Two}
use Rattle.share_model.specs.declared.rates.Rate.{Rate}
use Rattle.share_model.specs.link.Live.{Live}
use Rattle.share_model.specs.link.View.{LinkView}
use Rattle.share_model.specs.run.Fold.{empty_state, run, outcomes}
use Rattle.share_journal.specs.Records.{IsRunOf}
use Rattle.share_gateway.specs.declared.plan.Entry.{Entry}
use Rattle.share_gateway.specs.declared.openings.PlanCommand.{PlanCommand}
use Rattle.share_gateway.specs.declared.opened.NotOpened.{NotOpened}
use Rattle.share_gateway.specs.declared.opened.NotOpened.TheVariants.{NoMemory, Range, Refused as RefusedEntry}
use Rattle.share_gateway.specs.Plan.{PlanView}
use Rattle.share_gateway.specs.Opening.{opening}

-- the event of a command
abbrev pub event_of : PlanCommand → Event
event_of c = Commanded c.command

abbrev pub opening_events : PlanView → List Event
opening_events p = map event_of (opening p)

-- the answers to the opening
abbrev pub opening_outcomes : List Rate → PlanView → List Outcome
opening_outcomes rates p = outcomes rates (empty_state Two) (opening_events p)

-- the contents of the link after the opening
abbrev pub opened_link : List Rate → PlanView → Live
opened_link rates p = (run Two rates (opening_events p)).live

-- why a command was refused, if it was
abbrev pub refusals_in : Outcome → List Refusal
refusals_in (Replied Done) = []
refusals_in (Replied (Ticket number)) = []
refusals_in (Replied (Flow number)) = []
refusals_in (Replied (Closed flow dropped account)) = []
refusals_in (Replied (Packet flow seq)) = []
refusals_in (Replied (Refused refusal)) = refusal ∷ []
refusals_in (Turned turn) = []

-- the entry of a command that was refused, and the refusal
abbrev pub refused_entry : PlanCommand × Outcome → List (Entry × Refusal)
refused_entry c = map (λ refusal. (c.0.entry, refusal)) (refusals_in c.1)

abbrev pub refused_among : List PlanCommand → List Outcome → List (Entry × Refusal)
refused_among commands answers = flat_map refused_entry (zip commands answers)

-- the first entry that is refused, and the refusal; a plan is sound if there is none
abbrev pub first_refused : List Rate → PlanView → Option (Entry × Refusal)
first_refused rates p = slice_get (refused_among (opening p) (opening_outcomes rates p)) 0

-- a book makes 131072 to 2^24 events at most
abbrev pub is_book_life : ℕ → Bool
is_book_life events = nat_le 131072 events && nat_le events (2 ^ 24)

-- the link has the tariffs and the life that were asked for. None of the opening's commands was refused, and the link
-- holds what they left. They are its run
pub record IsOpened (rates : List Rate) (p : PlanView) (events : ℕ) {W : Type 0} (link : LinkView W) : Type 0 where
  pub life : link.life ≡ events
  pub rates_are : link.rates ≡ rates
  pub lasts : is_book_life events ≡ true
  pub sound : first_refused rates p ≡ None
  pub live : link.live ≡ opened_link rates p
  pub run_is : IsRunOf None Two events rates link.live (opening_events p) (opening_outcomes rates p)

-- the life is not a book's; or it is one, and memory was refused, or the first refused entry and its refusal are
-- these
abbrev pub IsNotOpened : List Rate → PlanView → ℕ → NotOpened → Type 0
IsNotOpened rates p events NoMemory = is_book_life events ≡ true
IsNotOpened rates p events Range = is_book_life events ≡ false
IsNotOpened rates p events (RefusedEntry entry refusal) =
    (is_book_life events ≡ true) × (first_refused rates p ≡ Some (entry, refusal))
