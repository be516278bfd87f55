-- If a link holds what a run left, each of its calls goes on with that run: by one event, or by none.
use Rattle.std.specs.Prelude.{◌≡◌, ◌⊎◌, ◌<◌, ℕ, Bool, true, false, List, [], ◌∷◌, ◌++◌, take, filter, nat_lt, Option}
use Rattle.std.specs.Prelude.{None, Some, IfSome, option_map, MatchBool}
use Rattle.std.proofs.Common.{refl, ap, sym, ◌∙◌, subst, inl, inr}
use Rattle.std.proofs.lemmas.Bool.{cond_both, cond-true, lt-ltb}
use Rattle.std.proofs.lemmas.List.{append-nil}
use Rattle.std.proofs.lemmas.List.Elements.{filter-append}
use Rattle.share_base.specs.Body.{BodyView, IsUnstamped}
use Rattle.share_base.specs.declared.refusal.Refusal.TheVariants.{NoMemory, Spent as SpentRefusal}
use Rattle.share_base.specs.declared.command.Command.{Command}
use Rattle.share_base.specs.declared.command.Reply.{Reply}
use Rattle.share_base.specs.declared.command.Reply.TheVariants.{Refused}
use Rattle.share_base.specs.declared.command.Turn.{Turn}
use Rattle.share_base.specs.declared.command.Turn.TheVariants.{Wrote, Torn, Idle, Again, Broken, Spent}
use Rattle.share_base.specs.declared.command.Outcome.{Outcome}
use Rattle.share_base.specs.declared.command.Outcome.TheVariants.{Replied, Turned}
use Rattle.share_base.specs.declared.command.Event.{Event}
use Rattle.share_base.specs.declared.command.Event.TheVariants.{Commanded, Arrived, Written, Faulted}
use Rattle.share_model.specs.declared.rates.Rate.{Rate}
use Rattle.share_model.specs.link.Fields.{IsName, IsBody, HasCommandFields}
use Rattle.share_model.specs.link.Tariff.{AreInRange}
use Rattle.share_model.specs.funding.Graph.{NameBytes}
use Rattle.share_model.specs.link.Live.{Live}
use Rattle.share_model.specs.link.Turns.{Sending, rest_of, is_whole, whole, in_part, write_step, fault_step}
use Rattle.share_model.specs.link.Step.{live_step}
use Rattle.share_model.specs.link.Arrivals.{arrive_step}
use Rattle.share_model.specs.link.Commands.{command_step}
pub use Rattle.share_model.specs.run.Ends.{IsEndOf, TellsRun}
use Rattle.share_model.specs.run.Fold.{State, step, state_after, outcomes, out}
use Rattle.share_model.specs.run.Events.{Sends, MayCome, MayFollow, writes_in}
use Rattle.share_model.proofs.lemmas.run.EventLemmas.{state-step, may_follow-one}
use Rattle.share_model.proofs.lemmas.run.ByteLemmas.{out-commanded, out-arrived, out-written, out-failed}
use Rattle.share_model.specs.link.View.{LinkView}
use Rattle.share_model.specs.link.Calls.{is_spent, Stepped, Steps, CommandCall}
use Rattle.share_model.specs.run.Sound.{Sound}
use Rattle.share_model.specs.io.Told.{Told, with_first}
use Rattle.share_model.proofs.lemmas.link.TurnLemmas.{StaysAs, as_spent, as_broken, as_idle, as_again, MadeEvent}
use Rattle.share_model.proofs.lemmas.link.TurnLemmas.{WroteSome}
use Rattle.share_model.proofs.lemmas.link.TurnLemmas.{with_nothing, TurnWent, turn_stayed, turn_wrote, turn_failed}
use Rattle.share_model.proofs.lemmas.link.TurnLemmas.{TearWent}
use Rattle.share_model.proofs.lemmas.link.TurnLemmas.{tear_stayed, tear_failed, written-step, failed-step, events-below}

-- the event of a turn, if it was one
abbrev pub turn_events : Turn → List Event
turn_events (Wrote flow seq k whole) = Written k ∷ []
turn_events (Torn flow seq j) = Faulted ∷ []
turn_events Idle = []
turn_events Again = []
turn_events Broken = []
turn_events Spent = []

-- its outcome
abbrev pub turn_outcomes : Turn → List Outcome
turn_outcomes (Wrote flow seq k whole) = Turned (Wrote flow seq k whole) ∷ []
turn_outcomes (Torn flow seq j) = Turned (Torn flow seq j) ∷ []
turn_outcomes Idle = []
turn_outcomes Again = []
turn_outcomes Broken = []
turn_outcomes Spent = []

-- whatever run left what the link held, these events with these outcomes follow it, and leave what the link holds now.
-- If the writer reported the bytes of that run and the counts of its writes, it reports those of this one
pub record Ran {W : Type 0} (told : W → Option Told) (old : LinkView W) (events : List Event) (made : List Outcome)
    (new : LinkView W) : Type 0 where
  pub life : new.life ≡ old.life
  pub rates : new.rates ≡ old.rates
  pub may : (s : State) → IsEndOf old.life old.rates s old.live → MayFollow old.life old.rates s events
  pub ends : (s : State) → IsEndOf old.life old.rates s old.live
      → IsEndOf old.life old.rates (state_after old.rates s events) new.live
  pub outcomes_are : (s : State) → IsEndOf old.life old.rates s old.live → outcomes old.rates s events ≡ made
  pub tells : (s : State) (before : List ℕ) → IsEndOf old.life old.rates s old.live
      → IfSome (told old.writer) (TellsRun s before)
      → IfSome (told new.writer) (TellsRun (state_after old.rates s events) (before ++ writes_in events))

ran_none : {W : Type 0} (told : W → Option Told) (old new : LinkView W) → new.live ≡ old.live → new.life ≡ old.life
    → new.rates ≡ old.rates → told new.writer ≡ told old.writer → Ran told old [] [] new
unfolding MayFollow state_after outcomes
ran_none told old new live life rates tells = record {
  life = life;
  rates = rates;
  may = λ s is. tt;
  ends = λ s is. record { live = is.live ∙ sym live; sound = is.sound };
  outcomes_are = λ s is. refl;
  tells =
      λ s before is was. subst (λ o. IfSome o (TellsRun s (before ++ []))) (sym tells)
      (subst (λ writes. IfSome (told old.writer) (TellsRun s writes)) (sym (append-nil before)) was);
}

-- an event that a link made
pub record MadeOne {W : Type 0} (old : LinkView W) (e : Event) (o : Outcome) (new : LinkView W) : Type 0 where
  pub below : old.live.counts.events < old.life
  pub may : MayCome old.live e
  pub live : new.live ≡ (live_step old.rates old.live e).0
  pub outcome_is : o ≡ (live_step old.rates old.live e).1
  pub life : new.life ≡ old.life
  pub rates : new.rates ≡ old.rates

ran_one : {W : Type 0} (told : W → Option Told) (old new : LinkView W) (e : Event) (o : Outcome)
    → AreInRange old.rates → MadeOne old e o new
    → ((s : State) (before : List ℕ) → IsEndOf old.life old.rates s old.live
    → IfSome (told old.writer) (TellsRun s before)
    → IfSome (told new.writer) (TellsRun (step old.rates s e) (before ++ writes_in (e ∷ []))))
    → Ran told old (e ∷ []) (o ∷ []) new
unfolding state_after outcomes
ran_one told old new e o range made tells = record {
  life = made.life;
  rates = made.rates;
  may =
      λ s is. may_follow-one old.life old.rates s e
      (subst (λ (l : Live). l.counts.events < old.life) (sym is.live) made.below)
      (subst (λ (l : Live). MayCome l e) (sym is.live) made.may);
  ends = λ s is. record {
    live = ap (λ (l : Live). (live_step old.rates l e).0) is.live ∙ sym made.live;
    sound =
        state-step range is.sound (subst (λ (l : Live). l.counts.events < old.life) (sym is.live) made.below) e
        (subst (λ (l : Live). MayCome l e) (sym is.live) made.may);
  };
  outcomes_are =
      λ s is. ap (λ o. o ∷ []) (ap (λ (l : Live). (live_step old.rates l e).1) is.live ∙ sym made.outcome_is);
  tells = tells;
}

ran_as : {W : Type 0} (told : W → Option Told) (old new : LinkView W) (es es' : List Event) (os os' : List Outcome)
    → es ≡ es' → os ≡ os' → Ran told old es' os' new → Ran told old es os new
ran_as told old new es es' os os' e o ran = rw (e, o) ran

-- The reports of the writer

tells_kept : (o o' : Option Told) (s s' : State) (before : List ℕ) → o' ≡ o → out s' ≡ out s
    → IfSome o (TellsRun s before) → IfSome o' (TellsRun s' (before ++ []))
tells_kept None o' s s' before same bytes was = subst (λ o. IfSome o (TellsRun s' (before ++ []))) (sym same) tt
tells_kept (Some t) o' s s' before same bytes was =
    subst (λ o. IfSome o (TellsRun s' (before ++ []))) (sym same)
    (record { bytes = was.bytes ∙ sym bytes; counts = was.counts ∙ sym (append-nil before) })

tells_nothing : (o o' : Option Told) (s s' : State) (before : List ℕ) → o' ≡ option_map with_nothing o → out s' ≡ out s
    → IfSome o (TellsRun s before) → IfSome o' (TellsRun s' (before ++ []))
tells_nothing None o' s s' before same bytes was = subst (λ o. IfSome o (TellsRun s' (before ++ []))) (sym same) tt
tells_nothing (Some t) o' s s' before same bytes was =
    subst (λ o. IfSome o (TellsRun s' (before ++ []))) (sym same)
    (record {
      bytes = was.bytes ∙ sym bytes;
      counts = filter-append (nat_lt 0) t.counts (0 ∷ [])
          ∙ ap (λ ks. ks ++ []) was.counts;
    })

fault_tells : (o o' : Option Told) (s s' : State) (before : List ℕ) → (o' ≡ o) ⊎ (o' ≡ option_map with_nothing o)
    → out s' ≡ out s → IfSome o (TellsRun s before) → IfSome o' (TellsRun s' (before ++ []))
fault_tells o o' s s' before (inl same) bytes was = tells_kept o o' s s' before same bytes was
fault_tells o o' s s' before (inr same) bytes was = tells_nothing o o' s s' before same bytes was

counts_more : (counts before : List ℕ) (k : ℕ) → 0 < k → filter (nat_lt 0) counts ≡ before
    → filter (nat_lt 0) (counts ++ k ∷ []) ≡ before ++ k ∷ []
counts_more counts before k some was =
    filter-append (nat_lt 0) counts (k ∷ [])
    ∙ (ap (λ ks. ks ++ filter (nat_lt 0) (k ∷ [])) was
    ∙ ap (λ ks. before ++ ks) (cond-true (nat_lt 0 k) (k ∷ []) [] (lt-ltb 0 k some)))

tells_more : (o o' : Option Told) (s s' : State) (before : List ℕ) (rest : List ℕ) (k : ℕ) → 0 < k
    → o' ≡ option_map (λ t. with_first t rest k) o → out s' ≡ out s ++ take k rest → IfSome o (TellsRun s before)
    → IfSome o' (TellsRun s' (before ++ k ∷ []))
tells_more None o' s s' before rest k some same bytes was =
    subst (λ o. IfSome o (TellsRun s' (before ++ k ∷ []))) (sym same) tt
tells_more (Some t) o' s s' before rest k some same bytes was =
    subst (λ o. IfSome o (TellsRun s' (before ++ k ∷ []))) (sym same)
    (record {
      bytes = ap (λ bytes. bytes ++ take k rest) was.bytes
          ∙ sym bytes;
      counts = counts_more t.counts before k some was.counts;
    })

-- A turn

made_event : {W : Type 0} (old : LinkView W) (e : Event) (s : Sending) (turn : Turn) (new : LinkView W)
    → MadeEvent old e s turn new → MayCome old.live e → MadeOne old e (Turned turn) new
made_event old e s turn new made may = record {
  below = made.below;
  may = may;
  live = made.live;
  outcome_is = made.outcome;
  life = made.life;
  rates = made.rates;
}

sends_at : (l l' : Live) (s : Sending) → l' ≡ l → Sends l s → Sends l' s
sends_at l l' s same sends = subst (λ l. Sends l s) (sym same) sends

-- the parts of the answer to a write
record IsWrote (turn : Turn) (k : ℕ) : Type 0 where
  events : turn_events turn ≡ Written k ∷ []
  outcomes : turn_outcomes turn ≡ Turned turn ∷ []

wrote_answer : (rates : List Rate) (l : Live) (s : Sending) (k : ℕ) → IsWrote (write_step rates l s k).1 k
wrote_answer rates l s k =
    cond_both (is_whole s k) (whole rates l s k, Wrote s.head.flow s.head.seq k true)
    (in_part l s k, Wrote s.head.flow s.head.seq k false) (λ (d : Live × Turn). IsWrote d.1 k)
    (λ _. record { events = refl; outcomes = refl })
    (λ _. record { events = refl; outcomes = refl })

same_turn : (t u : Turn) → Turned t ≡ Turned u → t ≡ u
same_turn t u same = cc

wrote_turn : {W : Type 0} (old : LinkView W) (k : ℕ) (s : Sending) (turn : Turn) (new : LinkView W)
    → MadeEvent old (Written k) s turn new → IsWrote turn k
wrote_turn old k s turn new made =
    subst (λ t. IsWrote t k)
    (sym (same_turn turn (write_step old.rates old.live s k).1
    (made.outcome ∙ ap (λ (d : Live × Outcome). d.1) (written-step old.rates old.live k s made.sends.is))))
    (wrote_answer old.rates old.live s k)

torn_turn : {W : Type 0} (old : LinkView W) (s : Sending) (turn : Turn) (new : LinkView W)
    → MadeEvent old Faulted s turn new
    → turn ≡ Torn s.head.flow s.head.seq s.out
torn_turn old s turn new made =
    same_turn turn (fault_step old.rates old.live s).1
    (made.outcome ∙ ap (λ (d : Live × Outcome). d.1) (failed-step old.rates old.live s made.sends.is))

module _ {W : Type 0} (told : W → Option Told) (old : LinkView W) (new : LinkView W) (range : AreInRange old.rates)
  where
    stays_ran : (turn : Turn) → StaysAs old turn → new.live ≡ old.live → new.life ≡ old.life → new.rates ≡ old.rates
        → told new.writer ≡ told old.writer → Ran told old (turn_events turn) (turn_outcomes turn) new
    stays_ran turn (as_spent spent is) live life rates tells =
        ran_as told old new _ _ _ _ (ap turn_events is) (ap turn_outcomes is)
        (ran_none told old new live life rates tells)
    stays_ran turn (as_broken living broken is) live life rates tells =
        ran_as told old new _ _ _ _ (ap turn_events is) (ap turn_outcomes is)
        (ran_none told old new live life rates tells)
    stays_ran turn (as_idle living unbroken none is) live life rates tells =
        ran_as told old new _ _ _ _ (ap turn_events is) (ap turn_outcomes is)
        (ran_none told old new live life rates tells)
    stays_ran turn (as_again living s sends is) live life rates tells =
        ran_as told old new _ _ _ _ (ap turn_events is) (ap turn_outcomes is)
        (ran_none told old new live life rates tells)

    wrote_ran : (most : ℕ) (turn : Turn) → WroteSome told old most turn new
        → Ran told old (turn_events turn) (turn_outcomes turn) new
    wrote_ran most turn did =
        let is : IsWrote turn did.count = wrote_turn old did.count did.frame turn new did.made in
        ran_as told old new _ _ _ _ is.events is.outcomes
        (ran_one told old new (Written did.count) (Turned turn) range
        (made_event old (Written did.count) did.frame turn new did.made
        (record { frame = did.frame; sends = did.made.sends; some = did.some; fits = did.fits }))
        (λ s before end was. tells_more (told old.writer) (told new.writer) s
        (step old.rates s (Written did.count)) before (rest_of did.frame) did.count did.some did.tells
        (out-written end.sound (sends_at old.live s.live did.frame end.live did.made.sends).unbroken
        (sends_at old.live s.live did.frame end.live did.made.sends).is did.count did.fits) was))

    fault_ran : (frame : Sending) (turn : Turn) → MadeEvent old Faulted frame turn new
        → (told new.writer ≡ told old.writer) ⊎ (told new.writer ≡ option_map with_nothing (told old.writer))
        → Ran told old (turn_events turn) (turn_outcomes turn) new
    fault_ran frame turn made tells =
        let is : turn ≡ Torn frame.head.flow frame.head.seq frame.out = torn_turn old frame turn new made in
        ran_as told old new _ _ _ _ (ap turn_events is) (ap turn_outcomes is ∙ ap (λ t. Turned t ∷ []) (sym is))
        (ran_one told old new Faulted (Turned turn) range
        (made_event old Faulted frame turn new made (record { frame = frame; sends = made.sends }))
        (λ s before end was. fault_tells (told old.writer) (told new.writer) s (step old.rates s Faulted) before tells
        (out-failed end.sound (sends_at old.live s.live frame end.live made.sends).unbroken
        (sends_at old.live s.live frame end.live made.sends).is) was))

    -- a turn goes on with the run by its event, if it is one
    pub turn-ran : (most : ℕ) (turn : Turn) → TurnWent told old most turn new
        → Ran told old (turn_events turn) (turn_outcomes turn) new
    turn-ran most turn (turn_stayed did) = stays_ran turn did.why did.live did.life did.rates did.tells
    turn-ran most turn (turn_wrote did) = wrote_ran most turn did
    turn-ran most turn (turn_failed did) = fault_ran did.frame turn did.made did.tells

    -- so does a declared fault
    pub tear-ran : (turn : Turn) → TearWent old turn new
        → Ran told old (turn_events turn) (turn_outcomes turn) new
    tear-ran turn (tear_stayed why same) =
        stays_ran turn why (ap (λ (s : LinkView W). s.live) same) (ap (λ (s : LinkView W). s.life) same)
        (ap (λ (s : LinkView W). s.rates) same) (ap (λ (s : LinkView W). told s.writer) same)
    tear-ran turn (tear_failed did) = fault_ran did.frame turn did.made (inl (ap told did.writer))

-- Commands and arrivals

-- a call is no event if the life is spent or it found no memory; otherwise it is its event
pub data AskedOutcome {W : Type 0} (told : W → Option Told) (old : LinkView W) (event : Event) (reply : Reply)
    (new : LinkView W) : Type 0 where
  asked_spent : is_spent old ≡ true → reply ≡ Refused SpentRefusal → new ≡ old → AskedOutcome told old event reply new
  asked_no_memory : is_spent old ≡ false → reply ≡ Refused NoMemory → new ≡ old → AskedOutcome told old event reply new
  asked_made : is_spent old ≡ false → Ran told old (event ∷ []) (Replied reply ∷ []) new
      → AskedOutcome told old event reply new

module _ {W : Type 0} (told : W → Option Told) (old : LinkView W) (reply : Reply) (new : LinkView W)
    (range : AreInRange old.rates) (sound : Sound old.life old.rates old.live) where
  command_ran : (c : Command) → HasCommandFields c → is_spent old ≡ false
      → Stepped (command_step old.rates old.live c) old reply new
      → Ran told old (Commanded c ∷ []) (Replied reply ∷ []) new
  command_ran c fields living did = ran_one told old new (Commanded c) (Replied reply) range
      (record {
        below = events-below old sound living;
        may = fields;
        live = did.live;
        outcome_is
            = ap Replied did.answer_is;
        life = did.rest.life;
        rates = did.rest.rates;
      })
      (λ s before end was. tells_kept (told old.writer) (told new.writer) s (step old.rates s (Commanded c)) before
      (ap told did.rest.writer) (out-commanded end.sound c) was)

  command_by : (c : Command) → HasCommandFields c → (t : Bool) → is_spent old ≡ t
      → MatchBool t ((reply ≡ Refused SpentRefusal) × (new ≡ old))
      (Stepped (command_step old.rates old.live c) old reply new) → AskedOutcome told old (Commanded c) reply new
  command_by c fields true spent did = asked_spent spent did.0 did.1
  command_by c fields false living did = asked_made living (command_ran c fields living did)

  -- a command
  pub command-asked : (c : Command) → HasCommandFields c → CommandCall old c reply new
      → AskedOutcome told old (Commanded c) reply new
  command-asked c fields (inl did) = asked_no_memory did.living did.reply_is did.unchanged
  command-asked c fields (inr did) = command_by c fields (is_spent old) refl did

  arrive_ran : (name : NameBytes) (body : BodyView)
      → IsName name × IsBody old.live.version body.payload × IsUnstamped body
      → is_spent old ≡ false → Stepped (arrive_step old.live name body.payload) old reply new
      → Ran told old (Arrived name body ∷ []) (Replied reply ∷ []) new
  arrive_ran name body fields living did = ran_one told old new (Arrived name body) (Replied reply) range
      (record {
        below = events-below old sound living;
        may = fields;
        live = did.live;
        outcome_is
            = ap Replied did.answer_is;
        life = did.rest.life;
        rates = did.rest.rates;
      })
      (λ s before end was. tells_kept (told old.writer) (told new.writer) s
      (step old.rates s (Arrived name body)) before (ap told did.rest.writer) (out-arrived end.sound name body) was)

  arrive_by : (name : NameBytes) (body : BodyView)
      → IsName name × IsBody old.live.version body.payload × IsUnstamped body
      → (t : Bool) → is_spent old ≡ t
      → MatchBool t ((reply ≡ Refused SpentRefusal) × (new ≡ old))
      (Stepped (arrive_step old.live name body.payload) old reply new)
      → AskedOutcome told old (Arrived name body) reply new
  arrive_by name body fields true spent did = asked_spent spent did.0 did.1
  arrive_by name body fields false living did = asked_made living (arrive_ran name body fields living did)

  -- an arrival
  pub arrive-asked : (name : NameBytes) (body : BodyView)
      → IsName name × IsBody old.live.version body.payload × IsUnstamped body
      → Steps (λ rates l. arrive_step l name body.payload) old reply new
      → AskedOutcome told old (Arrived name body) reply new
  arrive-asked name body fields did = arrive_by name body fields (is_spent old) refl did
