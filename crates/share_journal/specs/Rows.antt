-- Entries and recorders, checked against worked examples: each equation holds by computation alone.
use Rattle.std.specs.Prelude.{◌≡◌, ℕ, true, false, List, [], ◌∷◌, ◌++◌, codes, None, Some, refl}
use Rattle.share_base.specs.declared.command.Command.TheVariants.{MakeCurrency}
use Rattle.share_base.specs.declared.command.Event.TheVariants.{Commanded}
use Rattle.share_base.specs.declared.command.Outcome.TheVariants.{Replied}
use Rattle.share_base.specs.declared.command.Reply.TheVariants.{Done}
use Rattle.share_base.specs.declared.command.Turn.TheVariants.{Wrote, Torn, Idle, Again}
use Rattle.share_base.specs.declared.version.Version.TheVariants.{One, Two}
use Rattle.share_model.specs.link.Live.{empty_link, life_is_spent}
use Rattle.share_model.specs.link.View.{LinkView}
use Rattle.share_model.specs.run.Events.{writes_in}
use Rattle.share_model.specs.run.Fold.{empty_state, state_after, run, outcomes}
use Rattle.share_journal.specs.declared.entry.Entry.{Entry}
use Rattle.share_journal.specs.declared.entry.Source.TheVariants.{Clerk}
use Rattle.share_journal.specs.Entries.{entry_at, events_in, replies_of, turn_entries}
use Rattle.share_journal.specs.Records.{are_new}

-- a link and a journal that are new, of the lives 4 and 5, both of the life 4, and of two versions

new_link : ℕ → LinkView (Unit {0})
new_link life = record { life = life; rates = []; live = empty_link One; writer = tt }

lives_differ : are_new (new_link 4) (record { life = 5; version = One; entries = [] }) ≡ false
unfolding new_link
lives_differ = refl

lives_agree : are_new (new_link 4) (record { life = 4; version = One; entries = [] }) ≡ true
unfolding new_link
lives_agree = refl

versions_differ : are_new (new_link 4) (record { life = 4; version = Two; entries = [] }) ≡ false
unfolding new_link
versions_differ = refl

-- in a life of one event a currency is made, and then the life is spent

x : List ℕ
x = codes "x"

made : List Entry
made = record { event = Commanded (MakeCurrency x); reply = Replied Done; source = Clerk 1 } ∷ []

made_says : outcomes [] (empty_state One) (events_in made) ≡ replies_of made
unfolding made x outcomes
made_says = refl

made_spends : life_is_spent 1 (run One [] (events_in made)).live ≡ true
unfolding made x state_after
made_spends = refl

-- entries are numbered from 1

first_entry : entry_at made 1
    ≡ Some (record { event = Commanded (MakeCurrency x); reply = Replied Done; source = Clerk 1 })
unfolding made
first_entry = refl

no_entry : entry_at made 0 ≡ None
no_entry = refl

-- turns that write report their writes, and a fault and a turn that is no event report none

turns : List Entry
turns =
    turn_entries (Wrote 1 1 5 false) ++ turn_entries Again ++ turn_entries (Wrote 1 1 9 true) ++ turn_entries Idle
    ++ turn_entries (Torn 1 2 0)

turns_write : writes_in (events_in turns) ≡ 5 ∷ 9 ∷ []
unfolding turns
turns_write = refl
