-- An engine whose text grows as its events happen.
use Rattle.std.specs.Prelude.{◌≡◌, ◌≤◌, ◌⊎◌, Bool, true, false, List, ◌++◌, flat_map, nat_lt, ℕ, None}
use Rattle.share_base.specs.declared.command.Command.{Command}
use Rattle.share_base.specs.declared.command.Event.{Event}
use Rattle.share_base.specs.declared.command.Event.TheVariants.{Commanded}
use Rattle.share_base.specs.declared.command.Outcome.{Outcome}
use Rattle.share_base.specs.declared.command.Outcome.TheVariants.{Replied}
use Rattle.share_base.specs.declared.command.Reply.{Reply}
use Rattle.share_base.specs.declared.command.Reply.TheVariants.{Refused}
use Rattle.share_base.specs.declared.refusal.Refusal.TheVariants.{NoMemory}
use Rattle.share_base.specs.declared.version.Version.TheVariants.{Two}
use Rattle.share_model.specs.link.Calls.{FoundNoMemory}
use Rattle.share_model.specs.link.Live.{Live}
use Rattle.share_model.specs.link.Step.{live_step}
use Rattle.share_model.specs.link.View.{LinkView}
use Rattle.share_model.specs.run.Fold.{empty_state}
use Rattle.share_model.specs.run.Sound.{max_life}
use Rattle.share_journal.specs.Records.{IsRunOf}
use Rattle.share_book.specs.BookEvents.{AreBookEvents}
use Rattle.share_book.specs.Texts.{first_line, line_in, longest_line, TextView, text_room, with_bytes}
use Rattle.share_book.specs.declared.book_text.TextKind.{TextKind}

-- the link, the kind of its text, and what of the text was not drained
pub record Audited : Type 0 where
  pub link : LinkView (Unit {0})
  pub kind : TextKind
  pub text : TextView

-- the longest line has no room in the text
abbrev pub lacks_text : Audited → Bool
lacks_text a = nat_lt (text_room a.text) (longest_line a.kind)

-- after an event: the link's step, and the event's line at the end of the text
abbrev pub after_event : Audited → Event → Audited
after_event a e = record {
  link = record a.link { live = (live_step a.link.rates a.link.live e).0 };
  kind = a.kind;
  text = with_bytes a.text (line_in a.kind e);
}

-- the answer to it
abbrev pub outcome_in : Audited → Event → Outcome
outcome_in a e = (live_step a.link.rates a.link.live e).1

-- The invariant between calls

-- the link is of version 2, no frame of it is in part, and none was torn
pub record SendsWhole (l : Live) : Type 0 where
  pub version : l.version ≡ Two
  pub unparted : l.part ≡ None
  pub unbroken : l.broken ≡ false

-- the text, after what was drained of it, is the first line and the lines of the link's events. These are a run of the
-- link, whose life is at most the longest one, and each of them is one that a book makes
pub record IsRunAndText (a : Audited) : Type 0 where
  pub events : List Event
  pub replies : List Outcome
  pub drained : List ℕ
  pub run : IsRunOf None Two a.link.life a.link.rates a.link.live events replies
  pub lasts : a.link.life ≤ max_life
  pub own : AreBookEvents a.link.rates (empty_state Two) events
  pub text : drained ++ a.text.bytes ≡ first_line a.kind ++ flat_map (line_in a.kind) events

-- Commands

abbrev pub is_no_memory : Reply → Bool
is_no_memory (Refused NoMemory) = true
is_no_memory _ = false

-- a command found no memory, and nothing changed; or it was an event, with its line
abbrev pub CommandAudited : Audited → Command → Reply → Audited → Type 0
CommandAudited old c reply new =
    (FoundNoMemory old.link c reply new.link × (new ≡ old))
    ⊎ ((Replied reply ≡ outcome_in old (Commanded c)) × (new ≡ after_event old (Commanded c)))
