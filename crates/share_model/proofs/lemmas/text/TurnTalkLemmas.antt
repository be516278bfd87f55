-- Turns and declared faults of a script. If a link holds the state that a script left, and its writer that state's
-- bytes, each goes on with both.
use Rattle.std.specs.Prelude.{◌≡◌, ◌≢◌, ◌≤◌, ℕ, Bool, true, false, List, [], ◌∷◌, length, min, Option}
use Rattle.std.specs.Prelude.{None, Some, MatchBool, refl}
use Rattle.std.proofs.Common.{ap, sym, ◌∙◌, subst, cond}
use Rattle.share_base.specs.declared.command.Turn.{Turn}
use Rattle.share_base.specs.declared.command.Turn.TheVariants.{Torn, Idle, Broken, Spent}
use Rattle.share_base.specs.declared.command.Outcome.{Outcome}
use Rattle.share_base.specs.declared.command.Outcome.TheVariants.{Turned}
use Rattle.share_base.specs.declared.command.Event.{Event}
use Rattle.share_base.specs.declared.command.Event.TheVariants.{Written, Faulted}
use Rattle.share_model.specs.declared.line.Line.TheVariants.{Turn as TurnLine, Torn as TornLine}
use Rattle.share_model.specs.declared.writer.Answer.{Answer}
use Rattle.share_model.specs.declared.writer.Answer.TheVariants.{Failed}
use Rattle.share_model.specs.link.Live.{Live, life_is_spent}
use Rattle.share_model.specs.link.Turns.{Sending, sending, rest_of}
use Rattle.share_model.specs.link.View.{LinkView}
use Rattle.share_model.specs.link.Calls.{is_spent, TurnCall, Tears, TearCall}
use Rattle.share_model.proofs.lemmas.link.TurnLemmas.{turn-went, tear-went}
use Rattle.share_model.specs.io.Told.{Told, WasTold}
use Rattle.share_model.proofs.lemmas.run.CallLemmas.{Ran, turn_events, turn_outcomes, turn-ran, tear-ran}
use Rattle.share_model.specs.run.Sound.{Sound}
use Rattle.share_model.proofs.lemmas.text.OfferLemmas.{TurnTook, was_spent, was_broken, was_idle, wrote_all, was_torn}
use Rattle.share_model.proofs.lemmas.text.OfferLemmas.{turn-took}
use Rattle.share_model.specs.text.Answering.{Holds, IsAnswerBy, AnswersLine, TakesAll}
use Rattle.share_model.specs.text.Talk.{Progress, Made, makes, no_event, write_event, fault_event, unless_over}
use Rattle.share_model.specs.text.Talk.{progress_and_text}
use Rattle.share_model.proofs.lemmas.text.TalkLemmas.{sound_of, stayed, went_on, spent_is}
use Rattle.share_model.specs.text.Texts.{line_text}

first_of_three : {A : Type 0} (t u : Bool) (x y z : A) → t ≡ true → cond t x (cond u y z) ≡ x
first_of_three true u x y z e = refl
first_of_three false u x y z e = cc

second_of_three : {A : Type 0} (t u : Bool) (x y z : A) → t ≡ false → u ≡ true → cond t x (cond u y z) ≡ y
second_of_three true u x y z e h = cc
second_of_three false true x y z e h = refl
second_of_three false false x y z e h = cc

third_of_three : {A : Type 0} (t u : Bool) (x y z : A) → t ≡ false → u ≡ false → cond t x (cond u y z) ≡ z
third_of_three true u x y z e h = cc
third_of_three false true x y z e h = cc
third_of_three false false x y z e h = refl

module _ {W : Type 0} (told : W → Option Told) where
  sending_is : (old : LinkView W) (p : Progress) (o : Option Sending)
      → Holds told old p → sending old.live ≡ o → sending p.state.live ≡ o
  sending_is old p o h e = ap sending h.ends.live ∙ e

  broken_is : (old : LinkView W) (p : Progress) (b : Bool) → Holds told old p → old.live.broken ≡ b
      → p.state.live.broken ≡ b
  broken_is old p b h e = ap (λ (l : Live). l.broken) h.ends.live ∙ e

  -- the turn made this event, or was answered so without one, unless the life was over or the link broken
  abbrev SaidTurn : LinkView W → Progress → Made → Turn → LinkView W → Type 0
  SaidTurn old p event turn new =
      IsAnswerBy told (λ lack. progress_and_text old.rates p (unless_over old.life p.state event)) old
      (line_text (Turned turn)) new

  turn_over : (old new : LinkView W) (p : Progress) (event : Made) (turn : Turn) → Holds told old p
      → is_spent old ≡ true → turn ≡ Spent → new ≡ old → SaidTurn old p event turn new
  turn_over old new p event turn h spent is same =
      stayed told (λ lack. unless_over old.life p.state event) old new p (line_text (Turned turn)) false h same
      (first_of_three (life_is_spent old.life p.state.live) p.state.live.broken (no_event Spent) (no_event Broken) event
      (spent_is told old p true h spent)
      ∙ ap no_event (sym is))

  turn_broken : (old new : LinkView W) (p : Progress) (event : Made) (turn : Turn) → Holds told old p
      → is_spent old ≡ false → old.live.broken ≡ true → turn ≡ Broken → new ≡ old → SaidTurn old p event turn new
  turn_broken old new p event turn h living broken is same =
      stayed told (λ lack. unless_over old.life p.state event) old new p (line_text (Turned turn)) false h same
      (second_of_three (life_is_spent old.life p.state.live) p.state.live.broken (no_event Spent) (no_event Broken)
      event (spent_is told old p false h living) (broken_is old p true h broken)
      ∙ ap no_event (sym is))

  event_is : (old : LinkView W) (p : Progress) (event is : Made) → Holds told old p
      → is_spent old ≡ false → old.live.broken ≡ false → event ≡ is → unless_over old.life p.state event ≡ is
  event_is old p event is h living unbroken e =
      third_of_three (life_is_spent old.life p.state.live) p.state.live.broken (no_event Spent) (no_event Broken) event
      (spent_is told old p false h living) (broken_is old p false h unbroken)
      ∙ e

  turn_idle : (old new : LinkView W) (p : Progress) (event : Made) (turn : Turn) → Holds told old p
      → is_spent old ≡ false → old.live.broken ≡ false → event ≡ no_event Idle → turn ≡ Idle → new ≡ old
      → SaidTurn old p event turn new
  turn_idle old new p event turn h living unbroken none is same =
      stayed told (λ lack. unless_over old.life p.state event) old new p (line_text (Turned turn)) false h same
      (event_is old p event _ h living unbroken (none ∙ ap no_event (sym is)))

  turn_made : (old new : LinkView W) (p : Progress) (event : Made) (turn : Turn) (e : Event)
      → Holds told old p
      → is_spent old ≡ false → old.live.broken ≡ false → event ≡ makes e
      → turn_events turn ≡ e ∷ [] → turn_outcomes turn ≡ Turned turn ∷ []
      → Ran told old (turn_events turn) (turn_outcomes turn) new → SaidTurn old p event turn new
  turn_made old new p event turn e h living unbroken made events outcomes ran =
      let P : List Event → Type 0 = λ es. Ran told old es (turn_outcomes turn) new in
      let Q : List Outcome → Type 0 = λ os. Ran told old (e ∷ []) os new in
      went_on told (λ lack. unless_over old.life p.state event) old new p e (Turned turn) false h
      (subst Q outcomes (subst P events ran)) (event_is old p event (makes e) h living unbroken made)

  torn_sending : (old new : LinkView W) (turn : Turn) (p : Progress) → Holds told old p
      → Ran told old (turn_events turn) (turn_outcomes turn) new
      → is_spent old ≡ false → old.live.broken ≡ false
      → (o : Option Sending) → sending old.live ≡ o → Tears old o turn new
      → SaidTurn old p (fault_event (sending p.state.live)) turn new
  torn_sending old new turn p h ran living unbroken None none did =
      turn_idle old new p (fault_event (sending p.state.live)) turn h living unbroken
      (ap fault_event (sending_is old p None h none)) did.0 did.1
  torn_sending old new turn p h ran living unbroken (Some x) is did =
      let same : turn ≡ Torn x.head.flow x.head.seq x.out = did.answer_is in
      turn_made old new p (fault_event (sending p.state.live)) turn Faulted h living unbroken
      (ap fault_event (sending_is old p (Some x) h is)) (ap turn_events same)
      (ap turn_outcomes same ∙ ap (λ t. Turned t ∷ []) (sym same)) ran

  torn_unspent : (old new : LinkView W) (turn : Turn) (p : Progress) → Holds told old p
      → Ran told old (turn_events turn) (turn_outcomes turn) new
      → is_spent old ≡ false → (b : Bool) → old.live.broken ≡ b
      → MatchBool b ((turn ≡ Broken) × (new ≡ old)) (Tears old (sending old.live) turn new)
      → SaidTurn old p (fault_event (sending p.state.live)) turn new
  torn_unspent old new turn p h ran living true broken did =
      turn_broken old new p (fault_event (sending p.state.live)) turn h living broken did.0 did.1
  torn_unspent old new turn p h ran living false unbroken did =
      torn_sending old new turn p h ran living unbroken _ refl did

  torn_by : (old new : LinkView W) (turn : Turn) (p : Progress) → Holds told old p
      → Ran told old (turn_events turn) (turn_outcomes turn) new
      → (b : Bool) → is_spent old ≡ b
      → MatchBool b ((turn ≡ Spent) × (new ≡ old))
      (MatchBool old.live.broken ((turn ≡ Broken) × (new ≡ old)) (Tears old (sending old.live) turn new))
      → SaidTurn old p (fault_event (sending p.state.live)) turn new
  torn_by old new turn p h ran true spent did =
      turn_over old new p (fault_event (sending p.state.live)) turn h spent did.0 did.1
  torn_by old new turn p h ran false living did = torn_unspent old new turn p h ran living _ refl did

  pub torn-says : (old new : LinkView W) (first : Bool) (turn : Turn)
      → TearCall old turn new → AnswersLine told old first TornLine (line_text (Turned turn)) new
  torn-says old new first turn did p h place =
      let went = tear-went old turn new (sound_of told old p h) did in
      torn_by old new turn p h (tear-ran told old new h.range turn went) (is_spent old) refl did

module _ {W : Type 0} (told : W → Option Told) (answers : W → List ℕ → Answer → W → Type 0)
    (law : (before : W) (piece : List ℕ) (answer : Answer) (after : W)
    → answers before piece answer after → WasTold (told before) piece answer (told after))
    (all : TakesAll answers) where
  turn_by : (old new : LinkView W) (most : ℕ) (turn : Turn) (p : Progress) → Holds told old p
      → Ran told old (turn_events turn) (turn_outcomes turn) new
      → ((flow seq j : ℕ) → turn ≢ Torn flow seq j) → TurnTook answers old most turn new
      → SaidTurn told old p (write_event most (sending p.state.live)) turn new
  turn_by old new most turn p h ran whole (was_spent spent is same) =
      turn_over told old new p (write_event most (sending p.state.live)) turn h spent is same
  turn_by old new most turn p h ran whole (was_broken living broken is same) =
      turn_broken told old new p (write_event most (sending p.state.live)) turn h living broken is same
  turn_by old new most turn p h ran whole (was_idle living unbroken none is same) =
      turn_idle told old new p (write_event most (sending p.state.live)) turn h living unbroken
      (ap (write_event most) (sending_is told old p None h none)) is same
  turn_by old new most turn p h ran whole (wrote_all living unbroken x is events outcomes) =
      turn_made told old new p (write_event most (sending p.state.live)) turn _ h living unbroken
      (ap (write_event most) (sending_is told old p (Some x) h is)) events outcomes ran
  turn_by old new most turn p h ran whole (was_torn flow seq j is piece failed) = absurd (whole flow seq j is)

  -- a turn that is not torn wrote all that was offered
  pub turn-says : (old new : LinkView W) (first : Bool) (most : ℕ) (turn : Turn) → 1 ≤ most
      → TurnCall answers old most turn new → ((flow seq j : ℕ) → turn ≢ Torn flow seq j)
      → AnswersLine told old first (TurnLine most) (line_text (Turned turn)) new
  turn-says old new first most turn some did whole p h place =
      let sound = sound_of told old p h in
      turn_by old new most turn p h
      (turn-ran told old new h.range most turn (turn-went told answers law old most turn new sound did))
      whole (turn-took answers all old new most turn sound some did)

  -- a turn is torn only if an offer to the writer failed
  torn_failed : (old new : LinkView W) (most : ℕ) (turn : Turn) (flow seq j : ℕ) → turn ≡ Torn flow seq j
      → TurnTook answers old most turn new → (piece : List ℕ) × answers old.writer piece Failed new.writer
  torn_failed old new most turn flow seq j is (was_spent spent e same) =
      let q : Torn flow seq j ≡ Spent = sym is ∙ e in cc
  torn_failed old new most turn flow seq j is (was_broken living broken e same) =
      let q : Torn flow seq j ≡ Broken = sym is ∙ e in cc
  torn_failed old new most turn flow seq j is (was_idle living unbroken none e same) =
      let q : Torn flow seq j ≡ Idle = sym is ∙ e in cc
  torn_failed old new most turn flow seq j is (wrote_all living unbroken x sent events outcomes) =
      let q : Faulted ∷ [] ≡ Written (min most (length (rest_of x))) ∷ [] = sym (ap turn_events is) ∙ events in cc
  torn_failed old new most turn flow seq j is (was_torn f s k e piece failed) = (piece, failed)

  pub turn-failed : (old new : LinkView W) (most : ℕ) (turn : Turn) (flow seq j : ℕ)
      → Sound old.life old.rates old.live → 1 ≤ most → turn ≡ Torn flow seq j → TurnCall answers old most turn new
      → (piece : List ℕ) × answers old.writer piece Failed new.writer
  turn-failed old new most turn flow seq j sound some is did =
      torn_failed old new most turn flow seq j is (turn-took answers all old new most turn sound some did)
