-- The outcome of a turn of a link or a declared fault. The link stayed as it was, or one event of the writer was made.
use Rattle.std.specs.Prelude.{◌≡◌, ◌⊎◌, ◌==◌, ◌<◌, ◌≤◌, ℕ, Bool, true, false, List, [], ◌∷◌, ◌++◌, length, take, Option}
use Rattle.std.specs.Prelude.{None, Some, option_map, MatchBool, if◌then◌else◌}
use Rattle.std.proofs.Common.{refl, ap, sym, ◌∙◌, arith, inl, inr, length-take}
use Rattle.std.proofs.lemmas.Bool.{eqb-false, eqb-true}
use Rattle.std.proofs.lemmas.List.{append-nil, take-take}
use Rattle.share_base.specs.declared.command.Turn.{Turn}
use Rattle.share_base.specs.declared.command.Turn.TheVariants.{Idle, Again, Broken, Spent}
use Rattle.share_base.specs.declared.command.Outcome.{Outcome}
use Rattle.share_base.specs.declared.command.Outcome.TheVariants.{Turned}
use Rattle.share_base.specs.declared.command.Event.{Event}
use Rattle.share_base.specs.declared.command.Event.TheVariants.{Written, Faulted}
use Rattle.share_model.specs.declared.rates.Rate.{Rate}
use Rattle.share_model.specs.declared.writer.Answer.{Answer}
use Rattle.share_model.specs.declared.writer.Answer.TheVariants.{Accepted, Interrupted, Failed}
use Rattle.share_model.specs.link.Live.{Live}
use Rattle.share_model.specs.link.Turns.{Sending, sending, rest_of, write_step, fault_step}
use Rattle.share_model.specs.link.Step.{write_by, fault_by}
use Rattle.share_model.specs.link.Step.{turn_outcome, live_step}
use Rattle.share_model.specs.run.Events.{Sends}
use Rattle.share_model.specs.link.View.{LinkView}
use Rattle.share_model.specs.link.Calls.{is_spent, step_by_answer, OffersSome, TurnCall, Tears, TearCall}
use Rattle.share_model.specs.run.Sound.{Sound}
use Rattle.share_model.specs.io.Told.{Told, with_first, WasTold}

-- The cases

-- why no event was made, and the answer
pub data StaysAs {W : Type 0} (old : LinkView W) (turn : Turn) : Type 0 where
  as_spent : is_spent old ≡ true → turn ≡ Spent → StaysAs old turn
  as_broken : is_spent old ≡ false → old.live.broken ≡ true → turn ≡ Broken → StaysAs old turn
  as_idle : is_spent old ≡ false → old.live.broken ≡ false → sending old.live ≡ None → turn ≡ Idle → StaysAs old turn
  as_again : is_spent old ≡ false → (s : Sending) → Sends old.live s → turn ≡ Again → StaysAs old turn

-- no event was made, and the writer reports what it reported
pub record Stayed {W : Type 0} (told : W → Option Told) (old : LinkView W) (turn : Turn) (new : LinkView W) : Type 0
  where
    pub why : StaysAs old turn
    pub live : new.live ≡ old.live
    pub life : new.life ≡ old.life
    pub rates : new.rates ≡ old.rates
    pub tells : told new.writer ≡ told old.writer

-- the event of the writer was made that is `event`, while a frame was sent
pub record MadeEvent {W : Type 0} (old : LinkView W) (event : Event) (s : Sending) (turn : Turn)
    (new : LinkView W) : Type 0 where
  pub living : is_spent old ≡ false
  pub below : old.live.counts.events < old.life
  pub sends : Sends old.live s
  pub live : new.live ≡ (live_step old.rates old.live event).0
  pub outcome : Turned turn ≡ (live_step old.rates old.live event).1
  pub life : new.life ≡ old.life
  pub rates : new.rates ≡ old.rates

-- the writer accepted k of the next bytes, and reports them and the count
pub record WroteSome {W : Type 0} (told : W → Option Told) (old : LinkView W) (most : ℕ) (turn : Turn)
    (new : LinkView W) : Type 0 where
  pub count : ℕ
  pub frame : Sending
  pub made : MadeEvent old (Written count) frame turn new
  pub some : 0 < count
  pub few : count ≤ most
  pub fits : count ≤ length (rest_of frame)
  pub tells : told new.writer ≡ option_map (λ t. with_first t (rest_of frame) count) (told old.writer)

-- a call that accepted nothing is counted
abbrev pub with_nothing : Told → Told
with_nothing t = record { bytes = t.bytes; counts = t.counts ++ 0 ∷ [] }

-- the writer failed, or accepted nothing
pub record FailedThen {W : Type 0} (told : W → Option Told) (old : LinkView W) (turn : Turn) (new : LinkView W) : Type 0
  where
    pub frame : Sending
    pub made : MadeEvent old Faulted frame turn new
    pub tells : (told new.writer ≡ told old.writer) ⊎ (told new.writer ≡ option_map with_nothing (told old.writer))

-- the outcome of a turn
pub data TurnWent {W : Type 0} (told : W → Option Told) (old : LinkView W) (most : ℕ) (turn : Turn)
    (new : LinkView W) : Type 0 where
  turn_stayed : Stayed told old turn new → TurnWent told old most turn new
  turn_wrote : WroteSome told old most turn new → TurnWent told old most turn new
  turn_failed : FailedThen told old turn new → TurnWent told old most turn new

-- the outcome of a declared fault: the writer was not called
pub record ToreThen {W : Type 0} (old : LinkView W) (turn : Turn) (new : LinkView W) : Type 0 where
  pub frame : Sending
  pub made : MadeEvent old Faulted frame turn new
  pub writer : new.writer ≡ old.writer

pub data TearWent {W : Type 0} (old : LinkView W) (turn : Turn) (new : LinkView W) : Type 0 where
  tear_stayed : StaysAs old turn → new ≡ old → TearWent old turn new
  tear_failed : ToreThen old turn new → TearWent old turn new

-- The split of a turn

below_life : (a b : ℕ) → (a == b) ≡ false → a ≤ b → a < b
below_life a b differ most = let h : ¬ (a ≡ b) = eqb-false a b differ in omega arith

pub events-below : {W : Type 0} (old : LinkView W) → Sound old.life old.rates old.live → is_spent old ≡ false
    → old.live.counts.events < old.life
events-below old sound living = below_life old.live.counts.events old.life living sound.counts.events

pub written-step : (rates : List Rate) (l : Live) (k : ℕ) (s : Sending) → sending l ≡ Some s
    → live_step rates l (Written k) ≡ turn_outcome (write_step rates l s k)
written-step rates l k s is = ap (λ o. turn_outcome (write_by rates l k o)) is

pub failed-step : (rates : List Rate) (l : Live) (s : Sending) → sending l ≡ Some s
    → live_step rates l Faulted ≡ turn_outcome (fault_step rates l s)
failed-step rates l s is = ap (λ o. turn_outcome (fault_by rates l o)) is

fits_most : (most k : ℕ) (rest : List ℕ) → k ≤ length (take most rest) → (k ≤ most) × (k ≤ length rest)
fits_most most k rest fits = (omega (arith, length-take most rest), omega (arith, length-take most rest))

tells_rest : (before : Option Told) (most k : ℕ) (rest : List ℕ) → k ≤ most
    → option_map (λ t. with_first t (take most rest) k) before ≡ option_map (λ t. with_first t rest k) before
tells_rest None most k rest few = refl
tells_rest (Some t) most k rest few =
    ap (λ bytes. Some (record { bytes = t.bytes ++ bytes; counts = t.counts ++ k ∷ [] })) (take-take k most rest few)

tells_nothing : (before : Option Told) (piece : List ℕ)
    → option_map (λ t. with_first t piece 0) before ≡ option_map with_nothing before
tells_nothing None piece = refl
tells_nothing (Some t) piece =
    ap (λ bytes. Some (record { bytes = bytes; counts = t.counts ++ 0 ∷ [] })) (append-nil t.bytes)

stayed_same : {W : Type 0} (told : W → Option Told) (old : LinkView W) (turn : Turn) (new : LinkView W)
    → StaysAs old turn
    → new ≡ old → Stayed told old turn new
stayed_same told old turn new why same = record {
  why = why;
  live = ap (λ s. s.live) same;
  life = ap (λ s. s.life) same;
  rates = ap (λ s. s.rates) same;
  tells = ap (λ s. told s.writer) same;
}

made_by : {W : Type 0} (old : LinkView W) (event : Event) (s : Sending) (turn : Turn) (new : LinkView W)
    (next : Live × Turn)
    → is_spent old ≡ false → Sound old.life old.rates old.live → Sends old.live s
    → live_step old.rates old.live event ≡ turn_outcome next
    → new.live ≡ next.0 → turn ≡ next.1 → new.life ≡ old.life → new.rates ≡ old.rates → MadeEvent old event s turn new
made_by old event s turn new next living sound sends stepped live turn_is life rates = record {
  living = living;
  below = events-below old sound living;
  sends = sends;
  live = live ∙ sym (ap (λ (d : Live × Outcome). d.0) stepped);
  outcome = ap Turned turn_is ∙ sym (ap (λ (d : Live × Outcome). d.1) stepped);
  life = life;
  rates = rates;
}

-- the answer of the writer to the next bytes of the frame
record Answered {W : Type 0} (told : W → Option Told) (old : LinkView W) (most : ℕ) (s : Sending) (turn : Turn)
    (new : LinkView W) (answer : Answer) (next : Live × Turn) : Type 0 where
  living : is_spent old ≡ false
  sound : Sound old.life old.rates old.live
  sends : Sends old.live s
  tells : WasTold (told old.writer) (take most (rest_of s)) answer (told new.writer)
  live : new.live ≡ next.0
  turn_is : turn ≡ next.1
  life : new.life ≡ old.life
  rates : new.rates ≡ old.rates

some_count : (k : ℕ) → (k == 0) ≡ false → 0 < k
some_count k test = let h : ¬ (k ≡ 0) = eqb-false k 0 test in omega arith

went_accepted : {W : Type 0} (told : W → Option Told) (old : LinkView W) (most : ℕ) (s : Sending) (turn : Turn)
    (new : LinkView W) (k : ℕ) (b : Bool) → (k == 0) ≡ b
    → Answered told old most s turn new (Accepted k)
    (if b then fault_step old.rates old.live s else write_step old.rates old.live s k) → TurnWent told old most turn new
went_accepted told old most s turn new k true test a = turn_failed (record {
  frame = s;
  made =
      made_by old Faulted s turn new (fault_step old.rates old.live s) a.living a.sound a.sends
      (failed-step old.rates old.live s a.sends.is) a.live a.turn_is a.life a.rates;
  tells =
      inr (a.tells.1 ∙ (ap (λ n. option_map (λ t. with_first t (take most (rest_of s)) n) (told old.writer))
      (eqb-true k 0 test) ∙ tells_nothing (told old.writer) (take most (rest_of s))));
})
went_accepted told old most s turn new k false test a =
    let few : (k ≤ most) × (k ≤ length (rest_of s)) = fits_most most k (rest_of s) a.tells.0 in
    turn_wrote (record {
      count = k;
      frame = s;
      made =
          made_by old (Written k) s turn new (write_step old.rates old.live s k) a.living a.sound a.sends
          (written-step old.rates old.live k s a.sends.is) a.live a.turn_is a.life a.rates;
      some = some_count k test;
      few = few.0;
      fits = few.1;
      tells = a.tells.1 ∙ tells_rest (told old.writer) most k (rest_of s) few.0;
    })

went_answered : {W : Type 0} (told : W → Option Told) (old : LinkView W) (most : ℕ) (s : Sending) (turn : Turn)
    (new : LinkView W) (answer : Answer)
    → Answered told old most s turn new answer (step_by_answer old.rates old.live s answer)
    → TurnWent told old most turn new
went_answered told old most s turn new (Accepted k) a = went_accepted told old most s turn new k (k == 0) refl a
went_answered told old most s turn new Interrupted a = turn_stayed (record {
  why = as_again a.living s a.sends a.turn_is;
  live = a.live;
  life = a.life;
  rates = a.rates;
  tells = a.tells;
})
went_answered told old most s turn new Failed a = turn_failed (record {
  frame = s;
  made =
      made_by old Faulted s turn new (fault_step old.rates old.live s) a.living a.sound a.sends
      (failed-step old.rates old.live s a.sends.is) a.live a.turn_is a.life a.rates;
  tells = inl a.tells;
})

module _ {W : Type 0} (told : W → Option Told) (answers : W → List ℕ → Answer → W → Type 0)
    (law : (before : W) (piece : List ℕ) (answer : Answer) (after : W) → answers before piece answer after
    → WasTold (told before) piece answer (told after))
    (old : LinkView W) (most : ℕ) (turn : Turn) (new : LinkView W) (sound : Sound old.life old.rates old.live) where
  went_offered : (o : Option Sending) → is_spent old ≡ false → old.live.broken ≡ false → sending old.live ≡ o
      → OffersSome answers old most o turn new → TurnWent told old most turn new
  went_offered None living unbroken is did =
      turn_stayed (stayed_same told old turn new (as_idle living unbroken is did.0) did.1)
  went_offered (Some s) living unbroken is did = went_answered told old most s turn new did.answer (record {
    living = living;
    sound = sound;
    sends = record { unbroken = unbroken; is = is };
    tells = law old.writer (take most (rest_of s)) did.answer new.writer did.answered;
    live = did.live;
    turn_is = did.turn_is;
    life = did.life;
    rates = did.rates;
  })

  went_unspent : (b : Bool) → is_spent old ≡ false → old.live.broken ≡ b
      → MatchBool b ((turn ≡ Broken) × (new ≡ old)) (OffersSome answers old most (sending old.live) turn new)
      → TurnWent told old most turn new
  went_unspent true living broken did =
      turn_stayed (stayed_same told old turn new (as_broken living broken did.0) did.1)
  went_unspent false living unbroken did = went_offered (sending old.live) living unbroken refl did

  went_by : (t : Bool) → is_spent old ≡ t → MatchBool t ((turn ≡ Spent) × (new ≡ old))
      (MatchBool old.live.broken ((turn ≡ Broken) × (new ≡ old))
      (OffersSome answers old most (sending old.live) turn new)) → TurnWent told old most turn new
  went_by true spent did = turn_stayed (stayed_same told old turn new (as_spent spent did.0) did.1)
  went_by false living did = went_unspent old.live.broken living refl did

  -- a turn stayed, or made one event
  pub turn-went : TurnCall answers old most turn new → TurnWent told old most turn new
  turn-went did = went_by (is_spent old) refl did

-- The split of a declared fault

module _ {W : Type 0} (old : LinkView W) (turn : Turn) (new : LinkView W) (sound : Sound old.life old.rates old.live)
  where
    tear_sent : (o : Option Sending) → is_spent old ≡ false → old.live.broken ≡ false → sending old.live ≡ o
        → Tears old o turn new → TearWent old turn new
    tear_sent None living unbroken is did = tear_stayed (as_idle living unbroken is did.0) did.1
    tear_sent (Some s) living unbroken is did = tear_failed (record {
      frame = s;
      made =
          made_by old Faulted s turn new (fault_step old.rates old.live s) living sound
          (record { unbroken = unbroken; is = is })
          (failed-step old.rates old.live s is) did.live did.answer_is did.rest.life did.rest.rates;
      writer = did.rest.writer;
    })

    tear_unspent : (b : Bool) → is_spent old ≡ false → old.live.broken ≡ b
        → MatchBool b ((turn ≡ Broken) × (new ≡ old)) (Tears old (sending old.live) turn new) → TearWent old turn new
    tear_unspent true living broken did = tear_stayed (as_broken living broken did.0) did.1
    tear_unspent false living unbroken did = tear_sent (sending old.live) living unbroken refl did

    tear_by : (t : Bool) → is_spent old ≡ t → MatchBool t ((turn ≡ Spent) × (new ≡ old))
        (MatchBool old.live.broken ((turn ≡ Broken) × (new ≡ old)) (Tears old (sending old.live) turn new))
        → TearWent old turn new
    tear_by true spent did = tear_stayed (as_spent spent did.0) did.1
    tear_by false living did = tear_unspent old.live.broken living refl did

    -- a declared fault stayed, or made its event
    pub tear-went : TearCall old turn new → TearWent old turn new
    tear-went did = tear_by (is_spent old) refl did
