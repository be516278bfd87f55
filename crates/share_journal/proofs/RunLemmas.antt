-- A recorder's journal is a run: it begins as one, and each call goes on with it.
use Rattle.std.specs.Prelude.{◌≡◌, ◌<◌, ◌≤◌, ℕ, List, [], ◌∷◌, ◌++◌, length, Option, None, Some, IfSome, Bool, true}
use Rattle.std.specs.Prelude.{false, nat_lt}
use Rattle.std.proofs.Common.{refl, ap, sym, ◌∙◌, subst, arith}
use Rattle.std.proofs.lemmas.Bool.{ltb-true, ltb-false}
use Rattle.std.proofs.lemmas.List.{map-append, length-map, length-append, append-nil}
use Rattle.std.proofs.lemmas.List.Concat.{flat_map-append}
use Rattle.share_base.specs.declared.command.Event.{Event}
use Rattle.share_base.specs.declared.command.Outcome.{Outcome}
use Rattle.share_base.specs.declared.command.Outcome.TheVariants.{Replied}
use Rattle.share_base.specs.declared.command.Reply.{Reply}
use Rattle.share_base.specs.declared.command.Turn.{Turn}
use Rattle.share_base.specs.declared.command.Turn.TheVariants.{Wrote, Torn, Idle, Again, Broken, Spent}
use Rattle.share_base.specs.declared.version.Version.{Version}
use Rattle.share_base.specs.declared.version.Version.TheVariants.{One, Two}
use Rattle.share_model.specs.declared.rates.Rate.{Rate}
use Rattle.share_model.specs.io.Told.{Told}
use Rattle.share_model.specs.link.Live.{Live, empty_link}
use Rattle.share_model.specs.link.View.{LinkView}
use Rattle.share_model.specs.link.Tariff.{AreInRange}
use Rattle.share_model.specs.run.Ends.{IsEndOf, TellsRun}
use Rattle.share_model.specs.run.Events.{MayFollow, write_of, writes_in}
use Rattle.share_model.specs.run.Fold.{State, empty_state, run, state_after, outcomes, out}
use Rattle.share_model.proofs.lemmas.run.EventLemmas.{state-empty, state_after-append, outcomes-append}
use Rattle.share_model.proofs.lemmas.run.EventLemmas.{may_follow-append}
use Rattle.share_model.proofs.lemmas.link.VersionLemmas.{run-version}
use Rattle.share_model.proofs.lemmas.run.EventLemmas.{events-after}
use Rattle.share_model.proofs.lemmas.run.CallLemmas.{Ran, turn_events, turn_outcomes}
use Rattle.share_model.proofs.lemmas.run.CallLemmas.{AskedOutcome, asked_spent, asked_no_memory, asked_made}
use Rattle.share_model.specs.run.Sound.{Sound}
use Rattle.share_journal.specs.declared.entry.Entry.{Entry}
use Rattle.share_journal.specs.declared.entry.Source.{Source}
use Rattle.share_journal.specs.Entries.{JournalView, with_entries, events_in, replies_of, turn_entries}
use Rattle.share_journal.specs.Records.{IsRun, IsRunNow, IsRunOf, AcceptedNothing, is_same_version, entry_if}

-- The run of no event

told_nothing : (version : Version) (o : Option Told) → IfSome o AcceptedNothing
    → IfSome o (TellsRun (empty_state version) [])
unfolding out
told_nothing version None was = tt
told_nothing version (Some t) was = record { bytes = was.bytes; counts = was.counts }

pub empty_run : (version : Version) (told : Option Told) (life : ℕ) (rates : List Rate) → AreInRange rates
    → IfSome told AcceptedNothing → IsRun told life rates (empty_link version) []
unfolding MayFollow state_after outcomes
empty_run version told life rates range nothing = record {
  range = range;
  may = tt;
  replies_are = refl;
  ends = record { live = refl; sound = state-empty version life rates };
  tells = told_nothing version told nothing;
}

pub run-new : (told : Option Told) (life : ℕ) (rates : List Rate) (live : Live) (entries : List Entry)
    → AreInRange rates → IfSome told AcceptedNothing → live ≡ empty_link live.version → length entries ≡ 0
    → IsRun told life rates live entries
run-new told life rates live [] range nothing empty none =
    subst (λ (l : Live). IsRun told life rates l []) (sym empty) (empty_run live.version told life rates range nothing)
run-new told life rates live (e ∷ es) range nothing empty none = absurd (omega (arith, none))

-- The versions of a link and its journal

pub same_version : (one other : Version) → is_same_version one other ≡ true → one ≡ other
same_version One One same = refl
same_version Two Two same = refl
same_version One Two same = cc
same_version Two One same = cc

-- Laws of every run

module _ {told : Option Told} {version : Version} {life : ℕ} {rates : List Rate} {live : Live} {es : List Event}
    {os : List Outcome} (was : IsRunOf told version life rates live es os) where
  pub run-sound : Sound life rates live
  run-sound = subst (λ (l : Live). Sound life rates l) was.ends.live was.ends.sound.live

  -- each event is counted
  pub run-count : live.counts.events ≡ length es
  run-count =
      let last = ap (λ (l : Live). l.counts.events) was.ends.live in
      let counted = events-after life rates (empty_state version) es was.may in omega (arith, last, counted)

  -- the link is of the version of the run
  pub run-same : version ≡ live.version
  run-same = sym (run-version version rates es) ∙ ap (λ (l : Live). l.version) was.ends.live

  pub run-few : length es ≤ life
  run-few = let sound = run-sound in let count = run-count in omega (arith, sound.counts.events, count)

-- A run goes on

module _ {W : Type 0} (told : W → Option Told) (version : Version) (old new : LinkView W) (es fs : List Event)
    (os ps : List Outcome) where
  pub run_on : IsRunOf (told old.writer) version old.life old.rates old.live es os → Ran told old fs ps new
      → IsRunOf (told new.writer) version old.life old.rates new.live (es ++ fs) (os ++ ps)
  run_on was ran = record {
    range = was.range;
    may
        = may_follow-append old.life old.rates (empty_state version) es fs was.may
        (ran.may (run version old.rates es) was.ends);
    replies_are
        = outcomes-append old.rates (empty_state version) es fs
        ∙ (ap (λ made. made ++ outcomes old.rates (run version old.rates es) fs) was.replies_are
        ∙ ap (λ made. os ++ made) (ran.outcomes_are (run version old.rates es) was.ends));
    ends
        = subst (λ (s : State). IsEndOf old.life old.rates s new.live)
        (sym (state_after-append old.rates (empty_state version) es fs)) (ran.ends (run version old.rates es) was.ends);
    tells
        = subst (λ ks. IfSome (told new.writer) (TellsRun (run version old.rates (es ++ fs)) ks))
        (sym (flat_map-append write_of es fs))
        (subst (λ (s : State). IfSome (told new.writer) (TellsRun s (writes_in es ++ writes_in fs)))
        (sym (state_after-append old.rates (empty_state version) es fs))
        (ran.tells (run version old.rates es) (writes_in es) was.ends was.tells));
  }

  pub run_more : IsRunOf (told old.writer) version old.life old.rates old.live es os → Ran told old fs ps new
      → IsRunOf (told new.writer) new.live.version new.life new.rates new.live (es ++ fs) (os ++ ps)
  run_more was ran =
      let now = run_on was ran in
      subst (λ n. IsRunOf (told new.writer) new.live.version n new.rates new.live (es ++ fs) (os ++ ps)) (sym ran.life)
      (subst (λ r. IsRunOf (told new.writer) new.live.version old.life r new.live (es ++ fs) (os ++ ps)) (sym ran.rates)
      (subst (λ v. IsRunOf (told new.writer) v old.life old.rates new.live (es ++ fs) (os ++ ps)) (run-same now) now))

run_as : (told : Option Told) (version : Version) (life : ℕ) (rates : List Rate) (live : Live) (es es' : List Event)
    (os os' : List Outcome)
    → es ≡ es' → os ≡ os' → IsRunOf told version life rates live es' os' → IsRunOf told version life rates live es os
run_as told version life rates live es es' os os' e o ran = rw (e, o) ran

module _ {W : Type 0} (told : W → Option Told) (old new : LinkView W) (entries : List Entry)
    (was : IsRun (told old.writer) old.life old.rates old.live entries) where
  -- by the entries of its events
  pub run-more : (more : List Entry) → Ran told old (events_in more) (replies_of more) new
      → IsRun (told new.writer) new.life new.rates new.live (entries ++ more)
  run-more more ran =
      run_as (told new.writer) new.live.version new.life new.rates new.live _ _ _ _
      (map-append (λ (e : Entry). e.event) entries more) (map-append (λ (e : Entry). e.reply) entries more)
      (run_more told old.live.version old new (events_in entries) (events_in more) (replies_of entries)
      (replies_of more) was ran)

  -- if there is room for the entries of what an engine's call made
  pub run-room : (more : List Entry) → Ran told old (events_in more) (replies_of more) new
      → length (entries ++ more) ≤ old.life
  run-room more ran =
      let few : length (events_in entries ++ events_in more) ≤ old.life =
      run-few (run_on told old.live.version old new (events_in entries) (events_in more) (replies_of entries)
      (replies_of more) was ran) in
      let one = length-append entries more in
      let all = length-append (events_in entries) (events_in more) in
      omega (
        arith,
        few,
        one,
        all,
        length-map entries (λ (e : Entry). e.event),
        length-map more (λ (e : Entry). e.event),
      )

-- The journal beside the link

-- the journal is that of the link
abbrev pub IsJournalOf : {W : Type 0} → (W → Option Told) → LinkView W → JournalView → Type 0
IsJournalOf told link journal =
    (journal.life ≡ link.life) × (journal.version ≡ link.live.version) × IsRunNow told link journal.entries

kept_noted : {W : Type 0} (told : W → Option Told) (old new : LinkView W) (journal after : JournalView)
    (more : List Entry)
    → journal.life ≡ old.life → new.life ≡ old.life → journal.version ≡ new.live.version
    → after ≡ with_entries journal more → IsRunNow told new (journal.entries ++ more) → IsJournalOf told new after
kept_noted told old new journal after more life same version noted_is run =
    subst (λ (j : JournalView). IsJournalOf told new j) (sym noted_is) (life ∙ sym same, version, run)

-- the consequences of the engine's call
module _ {W : Type 0} (told : W → Option Told) (old new : LinkView W) (journal : JournalView)
    (was : IsJournalOf told old journal) where
  ran_room : (more : List Entry) → Ran told old (events_in more) (replies_of more) new
      → length (journal.entries ++ more) ≤ journal.life
  ran_room more ran =
      let few = run-room told old new journal.entries was.2 more ran in omega (arith, few, was.0)

  -- no event changes the version
  ran_same : (more : List Entry) → Ran told old (events_in more) (replies_of more) new
      → old.live.version ≡ new.live.version
  ran_same more ran =
      run-same (run_on told old.live.version old new (events_in journal.entries) (events_in more)
      (replies_of journal.entries) (replies_of more) was.2 ran)

  ran_kept : (after : JournalView) (more : List Entry)
      → Ran told old (events_in more) (replies_of more) new → after ≡ with_entries journal more
      → IsJournalOf told new after
  ran_kept after more ran noted_is =
      kept_noted told old new journal after more was.0 ran.life (was.1 ∙ ran_same more ran) noted_is
      (run-more told old new journal.entries was.2 more ran)

-- Turns and faults

turn_ran : {W : Type 0} (told : W → Option Told) (old new : LinkView W) (turn : Turn)
    → Ran told old (turn_events turn) (turn_outcomes turn) new
    → Ran told old (events_in (turn_entries turn)) (replies_of (turn_entries turn)) new
turn_ran told old new (Wrote flow seq k whole) ran = ran
turn_ran told old new (Torn flow seq j) ran = ran
turn_ran told old new Idle ran = ran
turn_ran told old new Again ran = ran
turn_ran told old new Broken ran = ran
turn_ran told old new Spent ran = ran

module _ {W : Type 0} (told : W → Option Told) (old new : LinkView W) (journal : JournalView) (turn : Turn)
    (was : IsJournalOf told old journal)
    (ran : Ran told old (turn_events turn) (turn_outcomes turn) new) where
  pub turn-room : length (journal.entries ++ turn_entries turn) ≤ journal.life
  turn-room = ran_room told old new journal was (turn_entries turn) (turn_ran told old new turn ran)

  pub turn-kept : (after : JournalView) → after ≡ with_entries journal (turn_entries turn) → IsJournalOf told new after
  turn-kept after noted_is =
      ran_kept told old new journal was after (turn_entries turn) (turn_ran told old new turn ran) noted_is

-- no event
ran_nothing : {W : Type 0} (told : W → Option Told) (old : LinkView W) → Ran told old [] [] old
unfolding MayFollow state_after outcomes
ran_nothing told old = record {
  life = refl;
  rates = refl;
  may = λ s is. tt;
  ends = λ s is. is;
  outcomes_are = λ s is. refl;
  tells =
      λ s before is was. subst (λ writes. IfSome (told old.writer) (TellsRun s writes)) (sym (append-nil before)) was;
}

-- Commands and arrivals

-- the entry of a command or an arrival
abbrev pub replied_entry : Event → Reply → Source → Entry
replied_entry e reply source = record { event = e; reply = Replied reply; source = source }

pub same_test : {a b c d : ℕ} → a ≡ c → b ≡ d → nat_lt a b ≡ nat_lt c d
same_test {b = b} {c = c} one other = ap (λ n. nat_lt n b) one ∙ ap (λ n. nat_lt c n) other

count_of : {W : Type 0} (old new : LinkView W) → new ≡ old → new.live.counts.events ≡ old.live.counts.events
count_of old new same = ap (λ (s : LinkView _). s.live.counts.events) same

module _ {W : Type 0} (told : W → Option Told) (old new : LinkView W) (journal : JournalView) (e : Event)
    (reply : Reply)
    (source : Source) (was : IsJournalOf told old journal) where
  asked_ran : AskedOutcome told old e reply new → old.live.counts.events < new.live.counts.events
      → Ran told old (e ∷ []) (Replied reply ∷ []) new
  asked_ran (asked_spent spent is same) more = let count = count_of old new same in absurd (omega (arith, count, more))
  asked_ran (asked_no_memory living is same) more =
      let count = count_of old new same in absurd (omega (arith, count, more))
  asked_ran (asked_made living ran) more = ran

  pub made_more : Ran told old (e ∷ []) (Replied reply ∷ []) new
      → old.live.counts.events < new.live.counts.events
  made_more ran =
      let es = events_in journal.entries in
      let now = run-count (run_on told old.live.version old new es (e ∷ []) (replies_of journal.entries)
      (Replied reply ∷ []) was.2 ran) in
      let before = run-count was.2 in omega (arith, now, before, length-append es (e ∷ []))

  none_ran : new ≡ old → Ran told old [] [] new
  none_ran same = subst (λ (s : LinkView W). Ran told old [] [] s) (sym same) (ran_nothing told old)

  -- the entry of the call, by whether the count of events grew
  asked_by : (made : Bool) → nat_lt old.live.counts.events new.live.counts.events ≡ made
      → AskedOutcome told old e reply new
      → Ran told old (events_in (entry_if made (replied_entry e reply source)))
      (replies_of (entry_if made (replied_entry e reply source))) new
  asked_by true test asked = asked_ran asked (ltb-true old.live.counts.events new.live.counts.events test)
  asked_by false test (asked_spent spent is same) = none_ran same
  asked_by false test (asked_no_memory living is same) = none_ran same
  asked_by false test (asked_made living ran) =
      let more = made_more ran in
      let few = ltb-false old.live.counts.events new.live.counts.events test in absurd (omega (arith, more, few))

  module _ (asked : AskedOutcome told old e reply new) (made : Bool) (entry : Entry)
      (test : made ≡ nat_lt old.live.counts.events new.live.counts.events)
      (is : entry ≡ replied_entry e reply source) where
    pub asked-room : length (journal.entries ++ entry_if made entry) ≤ journal.life
    asked-room =
        let more = entry_if made (replied_entry e reply source) in
        let few = ran_room told old new journal was more (asked_by made (sym test) asked) in
        subst (λ (x : Entry). length (journal.entries ++ entry_if made x) ≤ journal.life) (sym is) few

    pub asked-kept : (after : JournalView) → after ≡ with_entries journal (entry_if made entry)
        → IsJournalOf told new after
    asked-kept after noted_is =
        ran_kept told old new journal was after (entry_if made (replied_entry e reply source))
        (asked_by made (sym test) asked) (noted_is ∙ ap (λ (x : Entry). with_entries journal (entry_if made x)) is)
