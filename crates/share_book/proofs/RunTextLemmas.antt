-- The events of an audited engine stay a run, and its text their lines.
use Rattle.std.specs.Prelude.{◌≡◌, ◌≤◌, ℕ, Bool, true, false, List, [], ◌∷◌, ◌++◌, flat_map, take, drop, Option}
use Rattle.std.specs.Prelude.{None, MatchBool}
use Rattle.std.proofs.Common.{refl, ap, sym, ◌∙◌, subst, append_assoc, inl, inr}
use Rattle.std.proofs.lemmas.List.{append-nil, take-append-drop}
use Rattle.std.proofs.lemmas.List.Concat.{flat_map-append}
use Rattle.share_base.specs.Body.{unstamped}
use Rattle.share_base.specs.declared.command.Command.{Command}
use Rattle.share_base.specs.declared.command.Event.{Event}
use Rattle.share_base.specs.declared.command.Event.TheVariants.{Commanded, Arrived}
use Rattle.share_base.specs.declared.command.Outcome.{Outcome}
use Rattle.share_base.specs.declared.command.Outcome.TheVariants.{Replied}
use Rattle.share_base.specs.declared.command.Reply.{Reply}
use Rattle.share_base.specs.declared.command.Reply.TheVariants.{Refused}
use Rattle.share_base.specs.declared.refusal.Refusal.TheVariants.{NoMemory}
use Rattle.share_base.specs.declared.version.Version.TheVariants.{Two}
use Rattle.share_model.specs.declared.line.Line.TheVariants.{Change}
use Rattle.share_model.specs.io.Told.{Told}
use Rattle.share_model.specs.link.Answers.{answers_event}
use Rattle.share_model.specs.link.Arrivals.{arrive_step}
use Rattle.share_model.specs.link.Calls.{is_spent, Stepped, Steps, CommandStep, CommandCall}
use Rattle.share_model.specs.link.Commands.{command_step}
use Rattle.share_model.specs.link.Fields.{IsName, IsBody, HasCommandFields}
use Rattle.share_model.specs.link.Live.{Live}
use Rattle.share_model.specs.link.Tariff.{AreInRange}
use Rattle.share_model.specs.link.View.{LinkView}
use Rattle.share_model.specs.run.Fold.{State, empty_state, state_after, step}
use Rattle.share_model.specs.run.Sound.{Sound, max_life}
use Rattle.share_model.specs.declared.rates.Rate.{Rate}
use Rattle.share_model.specs.text.Audit.{written_line}
use Rattle.share_model.proofs.lemmas.link.AnswerLemmas.{arrival-answers, command-answers}
use Rattle.share_model.proofs.lemmas.run.ByteLemmas.{KeepsFrames, keeps-arrived, keeps-commanded}
use Rattle.share_model.proofs.lemmas.run.CallLemmas.{Ran, AskedOutcome, asked_spent, asked_no_memory, asked_made}
use Rattle.share_model.proofs.lemmas.run.CallLemmas.{arrive-asked, command-asked}
use Rattle.share_core.specs.Lent.{lent}
use Rattle.share_core.specs.Room.{has_room}
use Rattle.share_journal.specs.Records.{IsRunOf}
use Rattle.share_journal.proofs.RunLemmas.{run_on, run-sound}
use Rattle.share_book.specs.Texts.{first_line, line_in, TextView, with_bytes, after_drain}
use Rattle.share_book.specs.Audited.{Audited, IsRunAndText, SendsWhole, after_event, is_no_memory}
use Rattle.share_book.specs.BookEvents.{AreBookEvents, IsBookEvent}
use Rattle.share_book.specs.declared.book_text.TextKind.{TextKind}
use Rattle.share_book.proofs.TakeLemmas.{taken-room}
use Rattle.share_book.specs.declared.book_text.TextKind.TheVariants.{Whole, Lengths}

-- nothing is said
abbrev pub nothing_told : {W : Type 0} → W → Option Told
nothing_told _ = None

-- ---- Events of a book

own-more : (rates : List Rate) (s : State) (events : List Event) (e : Event) → AreBookEvents rates s events
    → IsBookEvent (state_after rates s events).live e → AreBookEvents rates s (events ++ e ∷ [])
unfolding AreBookEvents state_after
own-more rates s [] e were is = (is, tt)
own-more rates s (f ∷ events) e were is = (were.0, own-more rates (step rates s f) events e were.1 is)

-- ---- One event more

text_more : (drained bytes first line : List ℕ) (lines : List ℕ) → drained ++ bytes ≡ first ++ lines
    → drained ++ (bytes ++ line) ≡ first ++ (lines ++ line)
text_more drained bytes first line lines was =
    sym (append_assoc drained bytes line) ∙ ap (λ text. text ++ line) was ∙ append_assoc first lines line

line_last : (line : Event → List ℕ) (events : List Event) (e : Event)
    → flat_map line events ++ line e ≡ flat_map line (events ++ e ∷ [])
line_last line events e =
    ap (λ last. flat_map line events ++ last) (sym (append-nil (line e))) ∙ sym (flat_map-append line events (e ∷ []))

module _ {W : Type 0} (old new : Audited) (before after : W) where
  -- the link made an event, and its line was put at the end of the text
  pub run-more : (e : Event) (o : Outcome) → IsRunAndText old → IsBookEvent old.link.live e
      → Ran nothing_told (lent old.link before) (e ∷ []) (o ∷ []) (lent new.link after)
      → new.kind ≡ old.kind → new.text.bytes ≡ old.text.bytes ++ line_in old.kind e → IsRunAndText new
  run-more e o was own ran kind text = record {
    events = was.events ++ e ∷ [];
    replies = was.replies ++ o ∷ [];
    drained = was.drained;
    run =
        subst (λ life. IsRunOf None Two life new.link.rates new.link.live (was.events ++ e ∷ [])
        (was.replies ++ o ∷ []))
        (sym ran.life)
        (subst (λ rates. IsRunOf None Two old.link.life rates new.link.live (was.events ++ e ∷ [])
        (was.replies ++ o ∷ [])) (sym ran.rates)
        (run_on nothing_told Two (lent old.link before) (lent new.link after) was.events (e ∷ []) was.replies (o ∷ [])
        was.run ran));
    lasts = subst (λ life. life ≤ max_life) (sym ran.life) was.lasts;
    own =
        subst (λ rates. AreBookEvents rates (empty_state Two) (was.events ++ e ∷ [])) (sym ran.rates)
        (own-more old.link.rates (empty_state Two) was.events e was.own
        (subst (λ (l : Live). IsBookEvent l e) (sym was.run.ends.live) own));
    text =
        ap (λ bytes. was.drained ++ bytes) text
        ∙ text_more was.drained old.text.bytes (first_line old.kind) (line_in old.kind e)
        (flat_map (line_in old.kind) was.events) was.text
        ∙ ap (λ lines. first_line old.kind ++ lines) (line_last (line_in old.kind) was.events e)
        ∙ ap (λ k. first_line k ++ flat_map (line_in k) (was.events ++ e ∷ [])) (sym kind);
  }

-- ---- Drained

text_drained : (n : ℕ) (drained bytes : List ℕ) → (drained ++ take n bytes) ++ drop n bytes ≡ drained ++ bytes
text_drained n drained bytes =
    append_assoc drained (take n bytes) (drop n bytes) ∙ ap (λ text. drained ++ text) (take-append-drop n bytes)

pub run-drained : (old : Audited) (n : ℕ) → IsRunAndText old
    → IsRunAndText (record old { text = after_drain old.text n })
run-drained old n was = record {
  events = was.events;
  replies = was.replies;
  drained = was.drained ++ take n old.text.bytes;
  run = was.run;
  lasts = was.lasts;
  own = was.own;
  text = text_drained n was.drained old.text.bytes ∙ was.text;
}

-- ---- The state after an event

pub of_living : (b : Bool) (P Q : Type 0) → b ≡ false → MatchBool b P Q → Q
of_living true P Q living did = cc
of_living false P Q living did = did

pub link-is : (old new : LinkView (Unit {0})) (next : Live) → new.live ≡ next → new.life ≡ old.life
    → new.rates ≡ old.rates → new ≡ record old { live = next }
link-is old new next live life rates =
    ap (λ n. record { life = n; rates = new.rates; live = new.live; writer = tt }) life
    ∙ ap (λ r. record { life = old.life; rates = r; live = new.live; writer = tt }) rates
    ∙ ap (λ l. record { life = old.life; rates = old.rates; live = l; writer = tt }) live

-- a call that was asked for an event made it, if its answer is one to an event
pub asked-ran : {W : Type 0} (told : W → Option Told) (old new : LinkView W) (e : Event) (reply : Reply)
    → is_spent old ≡ false → answers_event reply ≡ true → AskedOutcome told old e reply new
    → Ran told old (e ∷ []) (Replied reply ∷ []) new
asked-ran told old new e reply living own (asked_spent spent is same) = cc
asked-ran told old new e reply living own (asked_no_memory _ is same) = cc
asked-ran told old new e reply living own (asked_made _ ran) = ran

-- ---- An arrival

module _ (old new : LinkView (Unit {0})) (reply : Reply) (name payload : List ℕ) (living : is_spent old ≡ false)
    (did : Steps (λ _ l. arrive_step l name payload) old reply new) where
  pub arrival-stepped : Stepped (arrive_step old.live name payload) old reply new
  arrival-stepped = of_living (is_spent old) _ _ living did

  pub arrival-link : new ≡ record old { live = (arrive_step old.live name payload).0 }
  arrival-link =
      link-is old new (arrive_step old.live name payload).0 arrival-stepped.live arrival-stepped.rest.life
      arrival-stepped.rest.rates

  pub arrival-ran : AreInRange old.rates → Sound old.life old.rates old.live → IsName name
      → IsBody old.live.version payload
      → Ran nothing_told old (Arrived name (unstamped payload) ∷ []) (Replied reply ∷ []) new
  arrival-ran range sound is_name body =
      asked-ran nothing_told old new (Arrived name (unstamped payload)) reply living
      (ap answers_event arrival-stepped.answer_is ∙ arrival-answers old.live name payload)
      (arrive-asked nothing_told old reply new range sound name (unstamped payload) (is_name, body, refl) did)

-- ---- A command

module _ (old new : LinkView (Unit {0})) (reply : Reply) (c : Command) (living : is_spent old ≡ false)
    (did : CommandStep old c reply new) where
  pub command-stepped : Stepped (command_step old.rates old.live c) old reply new
  command-stepped = of_living (is_spent old) _ _ living did

  pub command-link : new ≡ record old { live = (command_step old.rates old.live c).0 }
  command-link =
      link-is old new (command_step old.rates old.live c).0 command-stepped.live command-stepped.rest.life
      command-stepped.rest.rates

  pub command-own : answers_event reply ≡ true
  command-own = ap answers_event command-stepped.answer_is ∙ command-answers old.rates old.live c

  pub command-ran : AreInRange old.rates → Sound old.life old.rates old.live → HasCommandFields c
      → Ran nothing_told old (Commanded c ∷ []) (Replied reply ∷ []) new
  command-ran range sound fields =
      asked-ran nothing_told old new (Commanded c) reply living command-own
      (command-asked nothing_told old reply new range sound c fields (inr did))

-- ---- The invariant between calls

abbrev pub IsKept : Audited → Type 0
IsKept a = IsRunAndText a × SendsWhole a.link.live

pub whole_kept : (old next new : Live) → SendsWhole old → KeepsFrames old next → new ≡ next → SendsWhole new
whole_kept old next new was keeps is =
    subst SendsWhole (sym is)
    (record {
      version = keeps.version ∙ was.version;
      unparted = keeps.part ∙ was.unparted;
      unbroken = keeps.broken ∙ was.unbroken;
    })

-- the same over another link, with the line of an event
abbrev pub with_link : Audited → LinkView (Unit {0}) → Event → Audited
with_link a link e = record { link = link; kind = a.kind; text = with_bytes a.text (line_in a.kind e) }

module _ (old : Audited) (link : LinkView (Unit {0})) (reply : Reply) (living : is_spent old.link ≡ false)
    (was : IsKept old) where
  pub arrival-kept : (name payload : List ℕ) → IsName name → IsBody old.link.live.version payload
      → has_room old.link.live name ≡ true → Steps (λ _ l. arrive_step l name payload) old.link reply link
      → IsKept (with_link old link (Arrived name (unstamped payload)))
  arrival-kept name payload is_name body free did =
      let sound = run-sound was.0.run in
      let ran = arrival-ran old.link link reply name payload living did was.0.run.range sound is_name body in (
        run-more old (with_link old link (Arrived name (unstamped payload))) tt tt (Arrived name (unstamped payload))
            (Replied reply) was.0 (taken-room old.link.live name payload free) ran refl refl,
        whole_kept old.link.live (arrive_step old.link.live name payload).0 link.live was.1
            (keeps-arrived sound name payload) (arrival-stepped old.link link reply name payload living did).live,
      )

  pub command-kept : (c : Command) → HasCommandFields c → CommandStep old.link c reply link
      → IsKept (with_link old link (Commanded c))
  command-kept c fields did =
      let sound = run-sound was.0.run in
      let ran = command-ran old.link link reply c living did was.0.run.range sound fields in (
        run-more old (with_link old link (Commanded c)) tt tt (Commanded c) (Replied reply) was.0 tt ran refl refl,
        whole_kept old.link.live (command_step old.link.rates old.link.live c).0 link.live was.1
            (keeps-commanded sound c) (command-stepped old.link link reply c living did).live,
      )

-- the state after the event
pub arrival-after : (old : Audited) (link : LinkView (Unit {0})) (reply : Reply) (name payload : List ℕ)
    → is_spent old.link ≡ false → Steps (λ _ l. arrive_step l name payload) old.link reply link
    → with_link old link (Arrived name (unstamped payload)) ≡ after_event old (Arrived name (unstamped payload))
arrival-after old link reply name payload living did =
    ap (λ l. with_link old l (Arrived name (unstamped payload)))
    (arrival-link old.link link reply name payload living did)

pub command-after : (old : Audited) (link : LinkView (Unit {0})) (reply : Reply) (c : Command)
    → is_spent old.link ≡ false → CommandStep old.link c reply link
    → with_link old link (Commanded c) ≡ after_event old (Commanded c)
command-after old link reply c living did =
    ap (λ l. with_link old l (Commanded c)) (command-link old.link link reply c living did)

-- ---- The result of a command's call

own_memory : (r : Reply) → is_no_memory r ≡ true → answers_event r ≡ true → ⊥
own_memory (Refused NoMemory) test own = cc
own_memory r test own = cc

pub line-commanded : (kind : TextKind) (c : Command) → line_in kind (Commanded c) ≡ written_line (Change c)
line-commanded Whole c = refl
line-commanded Lengths c = refl

module _ (old : Audited) (link : LinkView (Unit {0})) (reply : Reply) (c : Command) (living : is_spent old.link ≡ false)
    (was : IsKept old) where
  -- memory was refused
  pub command-none : is_no_memory reply ≡ true → CommandCall old.link c reply link
      → IsKept (record { link = link; kind = old.kind; text = old.text })
  command-none test (inl found) =
      subst (λ l. IsKept (record { link = l; kind = old.kind; text = old.text })) (sym found.unchanged) was
  command-none test (inr did) = absurd (own_memory reply test (command-own old.link link reply c living did))

  -- it was an event
  pub command-some : HasCommandFields c → is_no_memory reply ≡ false → CommandCall old.link c reply link
      → (text : TextView) → text ≡ with_bytes old.text (written_line (Change c))
      → IsKept (record { link = link; kind = old.kind; text = text })
  command-some fields test (inl found) text is = let r = found.reply_is in cc
  command-some fields test (inr did) text is =
      subst (λ t. IsKept (record { link = link; kind = old.kind; text = t }))
      (sym (is ∙ ap (with_bytes old.text) (sym (line-commanded old.kind c))))
      (command-kept old link reply living was c fields did)
