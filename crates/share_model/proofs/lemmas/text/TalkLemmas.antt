-- If a link holds the state that a script left, and its writer that state's bytes, each line goes on with both.
use Rattle.std.specs.Prelude.{◌≡◌, ◌+◌, ℕ, Bool, true, false, List, [], ◌∷◌, ◌++◌, Option, None, Some}
use Rattle.std.specs.Prelude.{◌==◌, IfSome, Result, Ok, Err, MatchBool, if◌then◌else◌, refl}
use Rattle.std.proofs.Common.{ap, sym, ◌∙◌, subst, arith, inl, inr, cond}
use Rattle.share_base.specs.Body.{BodyView, IsUnstamped}
use Rattle.share_base.specs.declared.refusal.Refusal.{Refusal}
use Rattle.share_base.specs.declared.refusal.Refusal.TheVariants.{NoMemory, Spent as SpentRefusal, Syntax}
use Rattle.share_base.specs.declared.command.Command.{Command}
use Rattle.share_base.specs.declared.command.Reply.{Reply}
use Rattle.share_base.specs.declared.command.Reply.TheVariants.{Refused}
use Rattle.share_base.specs.declared.command.Outcome.{Outcome}
use Rattle.share_base.specs.declared.command.Outcome.TheVariants.{Replied}
use Rattle.share_base.specs.declared.command.Event.{Event}
use Rattle.share_base.specs.declared.command.Event.TheVariants.{Commanded, Arrived}
use Rattle.share_base.specs.declared.version.Version.{Version}
use Rattle.share_base.specs.declared.version.Version.TheVariants.{One}
use Rattle.share_model.specs.declared.line.Line.{Line}
use Rattle.share_model.specs.declared.line.Line.TheVariants.{Change, Send, Report, Audit}
use Rattle.share_model.specs.declared.rates.Rate.{Rate}
use Rattle.share_model.specs.link.Fields.{IsName, IsBody, HasCommandFields}
use Rattle.share_model.specs.link.Tariff.{AreInRange}
use Rattle.share_model.specs.link.Live.{Live, life_is_spent, empty_link}
use Rattle.share_model.specs.link.Turns.{sending}
use Rattle.share_model.specs.link.Arrivals.{arrive_step}
use Rattle.share_model.specs.link.Commands.{command_refusal}
use Rattle.share_model.specs.link.View.{LinkView}
use Rattle.share_model.specs.link.Calls.{is_spent, Stepped, Steps, CommandCall, CommandStep}
use Rattle.share_model.specs.io.Told.{Told}
use Rattle.share_model.specs.run.Fold.{State, empty_state, outcome, outcomes, out}
use Rattle.share_model.proofs.lemmas.run.EventLemmas.{state_after-one, events-commanded, events-arrived, state-empty}
use Rattle.share_model.specs.run.Ends.{IsEndOf, TellsRun}
use Rattle.share_model.proofs.lemmas.run.CallLemmas.{Ran, AskedOutcome, asked_spent, asked_no_memory, asked_made}
use Rattle.share_model.proofs.lemmas.run.CallLemmas.{command-asked, arrive-asked}
use Rattle.share_model.specs.run.Sound.{Sound}
use Rattle.share_model.specs.run.Events.{writes_in}
use Rattle.share_model.proofs.lemmas.text.EventLemmas.{progress_and_text-writes, later_line}
use Rattle.share_model.specs.text.Lines.{reading}
use Rattle.share_model.specs.text.Report.{report}
use Rattle.share_model.specs.text.Answering.{Holds, IsAnswerBy, AnswersLine, AnswersBytes}
use Rattle.share_model.specs.text.Talk.{Progress, Made, makes, says, refusal_line, is_syntax, change_event}
use Rattle.share_model.specs.text.Talk.{send_event, report_event}
use Rattle.share_model.specs.text.Talk.{audit_event, is_first, read_event, progress_and_text, answer, start_of_script}
use Rattle.share_model.specs.text.Talk.{onward, with_version}
use Rattle.share_model.specs.text.Texts.{line_text}

-- Outcomes

first_outcome : (o p : Outcome) → (List Outcome) → o ∷ [] ≡ p ∷ [] → o ≡ p
first_outcome o p os e = cc

one_outcome : (rates : List Rate) (s : State) (e : Event) (o : Outcome)
    → outcomes rates s (e ∷ []) ≡ o ∷ [] → o ≡ outcome rates s e
unfolding outcomes
one_outcome rates s e o q = sym (first_outcome _ _ [] q)

-- a call that found no memory made no step
no_step : {W : Type 0} (old new : LinkView W) (next : Live × Reply) (reply : Reply)
    → next.0.counts.events ≡ old.live.counts.events + 1 → is_spent old ≡ false → new ≡ old
    → (b : Bool) → is_spent old ≡ b
    → MatchBool b ((reply ≡ Refused SpentRefusal) × (new ≡ old)) (Stepped next old reply new) → ⊥
no_step old new next reply more living same true spent did = let q : false ≡ true = sym living ∙ spent in cc
no_step old new next reply more living same false e did =
    let x : new.live.counts.events ≡ next.0.counts.events = ap (λ (l : Live). l.counts.events) did.live in
    let y : new.live.counts.events ≡ old.live.counts.events = ap (λ n. n.live.counts.events) same in
    absurd (omega arith)

-- after a line no line is the first
not_first : {P : Type 0} (n : ℕ) → (n + 1 == 0) ≡ true → P
not_first n first = let q : false ≡ true = sym (later_line n) ∙ first in cc

module _ {W : Type 0} (told : W → Option Told) where
  pub sound_of : (link : LinkView W) (p : Progress) → Holds told link p → Sound link.life link.rates link.live
  sound_of link p h = subst (λ (l : Live). Sound link.life link.rates l) h.ends.live h.ends.sound.live

  -- The two ways on

  held_on : (old : LinkView W) (p : Progress) → Holds told old p → Holds told old (onward p)
  held_on old p h =
      record { fresh = λ first. not_first p.lines first; ends = h.ends; tells = h.tells; range = h.range }

  -- the line was answered without an event
  pub stayed : (event : Bool → Made) (old new : LinkView W) (p : Progress) (text : List ℕ)
      (lack : Bool)
      → Holds told old p → new ≡ old → event lack ≡ says text
      → IsAnswerBy told (λ lack. progress_and_text old.rates p (event lack)) old text new
  stayed event old new p text lack h same e = record {
    lack = lack;
    text_is = ap (λ r. (progress_and_text old.rates p r).1) (sym e);
    holds =
        let P : LinkView W → Type 0 = λ n. Holds told n (progress_and_text old.rates p (event lack)).0 in
        let Q : Made → Type 0 = λ r. Holds told old (progress_and_text old.rates p r).0 in
        subst P (sym same) (subst Q (sym e) (held_on old p h));
    life = ap (λ (n : LinkView W). n.life) same;
    rates = ap (λ (n : LinkView W). n.rates) same;
  }

  -- the line made an event
  pub went_on : (event : Bool → Made) (old new : LinkView W) (p : Progress) (e : Event) (o : Outcome)
      (lack : Bool)
      → Holds told old p → Ran told old (e ∷ []) (o ∷ []) new → event lack ≡ makes e
      → IsAnswerBy told (λ lack. progress_and_text old.rates p (event lack)) old (line_text o) new
  went_on event old new p e o lack h ran is =
      let next : State = (progress_and_text old.rates p (event lack)).0.state in
      let counts = sym (progress_and_text-writes old.rates p (makes e))
      ∙ ap (λ r. (progress_and_text old.rates p r).0.writes) (sym is) in
      let state = state_after-one old.rates p.state e ∙ ap (λ r. (progress_and_text old.rates p r).0.state) (sym is) in
      let P : State → Type 0 = λ t. IsEndOf old.life old.rates t new.live in
      let Q : State → Type 0 = λ t. IfSome (told new.writer) (TellsRun t (p.writes ++ writes_in (e ∷ []))) in
      let R : List ℕ → Type 0 = λ ks. IfSome (told new.writer) (TellsRun next ks) in
      let E : ℕ → Type 0 = λ n. IsEndOf n old.rates next new.live in
      let F : List Rate → Type 0 = λ r. IsEndOf new.life r next new.live in
      let next_of : Made → Progress = λ r. (progress_and_text old.rates p r).0 in
      let G : Made → Type 0 = λ r. is_first (next_of r) ≡ true → next_of r ≡ start_of_script
      in record {
        lack = lack;
        text_is =
            ap line_text (one_outcome old.rates p.state e o (ran.outcomes_are p.state h.ends))
            ∙ ap (λ r. (progress_and_text old.rates p r).1) (sym is);
        holds = record {
          fresh = subst G (sym is) (λ first. not_first p.lines first);
          ends = subst F (sym ran.rates) (subst E (sym ran.life) (subst P state (ran.ends p.state h.ends)));
          tells = subst R counts (subst Q state (ran.tells p.state p.writes h.ends h.tells));
          range = subst AreInRange (sym ran.rates) h.range;
        };
        life = ran.life;
        rates = ran.rates;
      }

  pub spent_is : (old : LinkView W) (p : Progress) (b : Bool) → Holds told old p → is_spent old ≡ b
      → life_is_spent old.life p.state.live ≡ b
  spent_is old p b h e = ap (life_is_spent old.life) h.ends.live ∙ e

  -- Commands

  change_by : (old new : LinkView W) (c : Command) (reply : Reply) (p : Progress) → Holds told old p
      → CommandStep old c reply new → AskedOutcome told old (Commanded c) reply new
      → IsAnswerBy told (λ lack. progress_and_text old.rates p (change_event old.life old.rates p.state lack c)) old
      (line_text (Replied reply)) new
  change_by old new c reply p h did (asked_spent spent is same) =
      let over : life_is_spent old.life p.state.live ≡ true = spent_is old p true h spent in
      stayed (λ lack. change_event old.life old.rates p.state lack c) old new p (line_text (Replied reply)) false h same
      (rw (over, is) refl)
  change_by old new c reply p h did (asked_no_memory living is same) =
      absurd (no_step old new _ reply (events-commanded old.rates old.live c) living same (is_spent old) refl did)
  change_by old new c reply p h did (asked_made living ran) =
      let over : life_is_spent old.life p.state.live ≡ false = spent_is old p false h living in
      went_on (λ lack. change_event old.life old.rates p.state lack c) old new p (Commanded c) (Replied reply) false
      h ran (rw over refl)

  pub change-says : (old new : LinkView W) (first : Bool) (c : Command) (reply : Reply) → HasCommandFields c
      → CommandCall old c reply new → AnswersLine told old first (Change c) (line_text (Replied reply)) new
  change-says old new first c reply fields (inl did) p h place =
      let living : life_is_spent old.life p.state.live ≡ false = spent_is old p false h did.living in
      let none = ap (λ (l : Live). command_refusal old.rates l c) h.ends.live ∙ did.allowed in
      stayed (λ lack. change_event old.life old.rates p.state lack c) old new p (line_text (Replied reply)) true h
      did.unchanged (rw (living, did.takes, none, did.reply_is) refl)
  change-says old new first c reply fields (inr did) p h place =
      change_by old new c reply p h did
      (command-asked told old reply new h.range (sound_of old p h) c fields (inr did))

  -- Packets

  send_by : (old new : LinkView W) (flow : List ℕ) (body : BodyView) (reply : Reply) (p : Progress)
      → Holds told old p
      → Steps (λ rates l. arrive_step l flow body.payload) old reply new
      → AskedOutcome told old (Arrived flow body) reply new
      → IsAnswerBy told (λ lack. progress_and_text old.rates p (send_event old.life p.state lack flow body)) old
      (line_text (Replied reply)) new
  send_by old new flow body reply p h did (asked_spent spent is same) =
      let over : life_is_spent old.life p.state.live ≡ true = spent_is old p true h spent in
      stayed (λ lack. send_event old.life p.state lack flow body) old new p (line_text (Replied reply)) false h
      same (rw (over, is) refl)
  send_by old new flow body reply p h did (asked_no_memory living is same) =
      absurd (no_step old new _ reply (events-arrived old.live flow body.payload) living same (is_spent old) refl did)
  send_by old new flow body reply p h did (asked_made living ran) =
      let over : life_is_spent old.life p.state.live ≡ false = spent_is old p false h living in
      went_on (λ lack. send_event old.life p.state lack flow body) old new p (Arrived flow body) (Replied reply)
      false h ran (rw over refl)

  pub send-says : (old new : LinkView W) (first : Bool) (flow : List ℕ) (body : BodyView) (reply : Reply)
      → IsName flow × IsBody old.live.version body.payload × IsUnstamped body
      → Steps (λ rates l. arrive_step l flow body.payload) old reply new
      → AnswersLine told old first (Send flow body) (line_text (Replied reply)) new
  send-says old new first flow body reply fields did p h place =
      send_by old new flow body reply p h did
      (arrive-asked told old reply new h.range (sound_of old p h) flow body fields did)

  -- Reports and audits

  pub report-says : (old : LinkView W) (first : Bool) → AnswersLine told old first Report (report old.live) old
  report-says old first p h place =
      stayed (λ lack. report_event p.state) old old p (report old.live) false h refl
      (ap (λ (l : Live). says (report l)) h.ends.live)

  -- the line of an audit is Syntax after the first
  pub audit-refused : (old : LinkView W) (version : Version)
      → AnswersLine told old false (Audit version) (line_text (Replied (Refused Syntax))) old
  audit-refused old version p h place =
      stayed (λ lack. audit_event version (is_first p)) old old p (line_text (Replied (Refused Syntax))) false h refl
      (ap (audit_event version) place)

  chosen_tells : (old : LinkView W) (p : Progress) (version : Version) → Holds told old p → is_first p ≡ true
      → (t : Option Told) → t ≡ told old.writer → IfSome t (TellsRun (empty_state version) p.writes)
  unfolding out sending
  chosen_tells old p version h first None is = tt
  chosen_tells old p version h first (Some t) is =
      let P : Progress → Type 0 = λ q. TellsRun q.state p.writes t in
      let Q : Option Told → Type 0 = λ o. IfSome o (TellsRun p.state p.writes) in
      let was = subst P (h.fresh first) (subst Q (sym is) h.tells) in
      record { bytes = was.bytes; counts = was.counts }

  -- as the first it makes the link a new one of its version, and has no answer
  pub audit-says : (old new : LinkView W) (version : Version)
      → new ≡ record old { live = empty_link version } → AnswersLine told old true (Audit version) [] new
  audit-says old new version is p h first =
      let made = λ (b : Bool). progress_and_text old.rates p (audit_event version b) in
      let P : LinkView W → Type 0 = λ n. Holds told n (with_version p version) in
      let Q : Bool → Type 0 = λ b. Holds told new (made b).0 in
      record {
        lack = false;
        text_is = ap (λ b. (made b).1) (sym first);
        holds =
            subst Q (sym first)
            (subst P (sym is)
            (record {
              fresh = λ again. not_first p.lines again;
              ends = record { live = refl; sound = state-empty version old.life old.rates };
              tells = chosen_tells old p version h first (told old.writer) refl;
              range = h.range;
            }));
        life = ap (λ (n : LinkView W). n.life) is;
        rates = ap (λ (n : LinkView W). n.rates) is;
      }

  -- Whole lines

  read_as : (old : LinkView W) (p : Progress) (bytes : List ℕ) → Holds told old p
      → reading p.state.live.version bytes ≡ reading old.live.version bytes
  read_as old p bytes h = ap (λ (l : Live). reading l.version bytes) h.ends.live

  -- a line that was read is answered as that line
  pub line-says : (old new : LinkView W) (first : Bool) (bytes : List ℕ) (l : Line) (text : List ℕ)
      → reading old.live.version bytes ≡ Ok l → AnswersLine told old first l text new
      → AnswersBytes told old first bytes text new
  unfolding answer
  line-says old new first bytes l text is said p h place =
      let event = λ (r : Result Line Refusal) (lack : Bool). read_event old.life old.rates p lack r in
      let P = λ (r : Result Line Refusal). IsAnswerBy told (λ b. progress_and_text old.rates p (event r b)) old text new
      in
      subst P (sym (read_as old p bytes h ∙ is)) (said p h place)

  -- a line that is answered before the link is asked changes nothing
  unasked_says : (old : LinkView W) (bytes : List ℕ) (p : Progress) (text : List ℕ) (lack : Bool)
      → Holds told old p → read_event old.life old.rates p lack (reading old.live.version bytes) ≡ says text
      → IsAnswerBy told (λ lack. answer old.life old.rates p lack bytes) old text old
  unfolding answer
  unasked_says old bytes p text lack h is =
      stayed (λ lack. read_event old.life old.rates p lack (reading p.state.live.version bytes)) old old p text lack h
      refl (ap (read_event old.life old.rates p lack) (read_as old p bytes h) ∙ is)

  -- a line that was not read changes nothing
  pub unread-says : (old : LinkView W) (first : Bool) (bytes : List ℕ) (e : Refusal) (r : Refusal)
      → reading old.live.version bytes ≡ Err e
      → r ≡ (if is_syntax e then Syntax else if is_spent old then SpentRefusal else e)
      → AnswersBytes told old first bytes (line_text (Replied (Refused r))) old
  unread-says old first bytes e r is given p h place =
      unasked_says old bytes p (line_text (Replied (Refused r))) false h
      (ap (read_event old.life old.rates p false) is
      ∙ unread_by (is_syntax e) (is_spent old) (spent_is old p _ h refl) given)
    where
      unread_by : (t u : Bool) → life_is_spent old.life p.state.live ≡ u → r ≡ cond t Syntax (cond u SpentRefusal e)
          → cond t (refusal_line Syntax) (cond (life_is_spent old.life p.state.live) (refusal_line SpentRefusal)
          (refusal_line e))
          ≡ refusal_line r
      unread_by true u over g = ap refusal_line (sym g)
      unread_by false true over g = rw over (ap refusal_line (sym g))
      unread_by false false over g = rw over (ap refusal_line (sym g))

  -- a packet that found no memory changes nothing
  pub no_memory-says : (old : LinkView W) (first : Bool) (bytes flow : List ℕ) (body : BodyView) (r : Refusal)
      → reading old.live.version bytes ≡ Ok (Send flow body)
      → r ≡ (if is_spent old then SpentRefusal else NoMemory)
      → AnswersBytes told old first bytes (line_text (Replied (Refused r))) old
  no_memory-says old first bytes flow body r is given p h place =
      unasked_says old bytes p (line_text (Replied (Refused r))) true h
      (ap (read_event old.life old.rates p true) is
      ∙ none_by (is_spent old) (spent_is old p _ h refl) given)
    where
      none_by : (u : Bool) → life_is_spent old.life p.state.live ≡ u → r ≡ cond u SpentRefusal NoMemory
          → send_event old.life p.state true flow body ≡ refusal_line r
      none_by true over g = rw over (ap refusal_line (sym g))
      none_by false over g = rw over (ap refusal_line (sym g))

-- The first state

pub holds-empty : (link : LinkView Told) → AreInRange link.rates → link.live ≡ empty_link One
    → link.writer ≡ record { bytes = []; counts = [] } → Holds Some link start_of_script
unfolding out sending
holds-empty link range new empty = record {
  fresh = λ first. refl;
  ends = record { live = sym new; sound = state-empty One link.life link.rates };
  tells =
      let P : Told → Type 0 = λ t. TellsRun (empty_state One) [] t in
      subst P (sym empty) (record { bytes = refl; counts = refl });
  range = range;
}
