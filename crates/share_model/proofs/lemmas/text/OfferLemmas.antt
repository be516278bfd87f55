-- The outcome of a turn on a writer that takes all that it is offered, or fails.
use Rattle.std.specs.Prelude.{◌≡◌, ◌==◌, ◌<◌, ◌≤◌, ℕ, Bool, true, false, List, [], ◌∷◌, length, take, min, Option, None}
use Rattle.std.specs.Prelude.{Some, MatchBool, refl}
use Rattle.std.proofs.Common.{ap, sym, ◌∙◌, arith, length-take, length-drop}
use Rattle.std.proofs.lemmas.Bool.{cond_both}
use Rattle.std.proofs.lemmas.Bool.Decides.{nat_tests}
use Rattle.share_base.specs.declared.command.Turn.{Turn}
use Rattle.share_base.specs.declared.command.Turn.TheVariants.{Wrote, Torn, Idle, Broken, Spent}
use Rattle.share_base.specs.declared.command.Outcome.TheVariants.{Turned}
use Rattle.share_base.specs.declared.command.Event.TheVariants.{Written}
use Rattle.share_model.specs.declared.rates.Rate.{Rate}
use Rattle.share_model.specs.declared.writer.Answer.{Answer}
use Rattle.share_model.specs.declared.writer.Answer.TheVariants.{Accepted, Interrupted, Failed}
use Rattle.share_model.specs.link.Live.{Live}
use Rattle.share_model.specs.link.Turns.{Sending, frame_of, sending, rest_of, is_whole, whole, in_part, write_step}
use Rattle.share_model.specs.link.View.{LinkView}
use Rattle.share_model.specs.link.Calls.{is_spent, step_by_answer, OffersSome, TurnCall}
use Rattle.share_model.proofs.lemmas.run.CallLemmas.{turn_events, turn_outcomes}
use Rattle.share_model.specs.run.Sound.{Sound}
use Rattle.share_model.proofs.lemmas.run.SoundLinkLemmas.{sending-few}
use Rattle.share_model.specs.text.Answering.{TakesAll}

-- it stayed, it wrote all that was offered, or it was torn
pub data TurnTook {W : Type 0} (answers : W → List ℕ → Answer → W → Type 0)
    (old : LinkView W) (most : ℕ) (turn : Turn) (new : LinkView W) : Type 0 where
  was_spent : is_spent old ≡ true → turn ≡ Spent → new ≡ old → TurnTook answers old most turn new
  was_broken : is_spent old ≡ false → old.live.broken ≡ true → turn ≡ Broken → new ≡ old
      → TurnTook answers old most turn new
  was_idle : is_spent old ≡ false → old.live.broken ≡ false → sending old.live ≡ None → turn ≡ Idle → new ≡ old
      → TurnTook answers old most turn new
  wrote_all : is_spent old ≡ false → old.live.broken ≡ false → (x : Sending) → sending old.live ≡ Some x
      → turn_events turn ≡ Written (min most (length (rest_of x))) ∷ [] → turn_outcomes turn ≡ Turned turn ∷ []
      → TurnTook answers old most turn new
  was_torn : (flow seq j : ℕ) → turn ≡ Torn flow seq j
      → (piece : List ℕ) → answers old.writer piece Failed new.writer → TurnTook answers old most turn new

-- the event and the outcome of a write
record IsWriteTurn (turn : Turn) (k : ℕ) : Type 0 where
  events : turn_events turn ≡ Written k ∷ []
  outcomes : turn_outcomes turn ≡ Turned turn ∷ []

wrote_by : (rates : List Rate) (l : Live) (x : Sending) (k : ℕ) → IsWriteTurn (write_step rates l x k).1 k
wrote_by rates l x k =
    cond_both (is_whole x k)
    (whole rates l x k, Wrote x.head.flow x.head.seq k true)
    (in_part l x k, Wrote x.head.flow x.head.seq k false)
    (λ (d : Live × Turn). IsWriteTurn d.1 k)
    (λ _. record { events = refl; outcomes = refl })
    (λ _. record { events = refl; outcomes = refl })

-- the rest of a frame that is sent is not empty
pub rest-some : {life : ℕ} {rates : List Rate} {l : Live} (x : Sending)
    → Sound life rates l → sending l ≡ Some x → 0 < length (rest_of x)
rest-some x sound is =
    let few = sending-few sound is in
    omega (arith, length-drop x.out (frame_of x), few)

not_zero : (k : ℕ) → 0 < k → (k == 0) ≡ false
not_zero k h = grind (arith, nat_tests)

module _ {W : Type 0} (answers : W → List ℕ → Answer → W → Type 0) (all : TakesAll answers) where
  took_answer : (old new : LinkView W) (most : ℕ) (turn : Turn) (x : Sending) (answer : Answer)
      → is_spent old ≡ false → old.live.broken ≡ false → sending old.live ≡ Some x
      → 1 ≤ most → 0 < length (rest_of x) → answers old.writer (take most (rest_of x)) answer new.writer
      → turn ≡ (step_by_answer old.rates old.live x answer).1 → TurnTook answers old most turn new
  took_answer old new most turn x (Accepted k) living unbroken is some rest did e =
      let n : k ≡ min most (length (rest_of x)) = all _ _ _ _ did ∙ length-take most (rest_of x) in
      let test : (k == 0) ≡ false = not_zero k (omega arith) in
      let same : turn ≡ (write_step old.rates old.live x k).1 = e ∙ rw test refl in
      let w = wrote_by old.rates old.live x k in
      wrote_all living unbroken x is
      (ap turn_events same ∙ w.events ∙ ap (λ m. Written m ∷ []) n)
      (ap turn_outcomes same ∙ w.outcomes ∙ ap (λ t. Turned t ∷ []) (sym same))
  took_answer old new most turn x Interrupted living unbroken is some rest did e = absurd (all _ _ _ _ did)
  took_answer old new most turn x Failed living unbroken is some rest did e = was_torn _ _ _ e _ did

  took_sending : (old new : LinkView W) (most : ℕ) (turn : Turn) → Sound old.life old.rates old.live → 1 ≤ most
      → is_spent old ≡ false → old.live.broken ≡ false
      → (o : Option Sending) → sending old.live ≡ o → OffersSome answers old most o turn new
      → TurnTook answers old most turn new
  took_sending old new most turn sound some living unbroken None is did = was_idle living unbroken is did.0 did.1
  took_sending old new most turn sound some living unbroken (Some x) is did =
      took_answer old new most turn x did.answer living unbroken is some (rest-some x sound is) did.answered did.turn_is

  took_unspent : (old new : LinkView W) (most : ℕ) (turn : Turn) → Sound old.life old.rates old.live → 1 ≤ most
      → is_spent old ≡ false → (b : Bool) → old.live.broken ≡ b
      → MatchBool b ((turn ≡ Broken) × (new ≡ old)) (OffersSome answers old most (sending old.live) turn new)
      → TurnTook answers old most turn new
  took_unspent old new most turn sound some living true broken did = was_broken living broken did.0 did.1
  took_unspent old new most turn sound some living false unbroken did =
      took_sending old new most turn sound some living unbroken _ refl did

  took_by : (old new : LinkView W) (most : ℕ) (turn : Turn) → Sound old.life old.rates old.live → 1 ≤ most
      → (b : Bool) → is_spent old ≡ b
      → MatchBool b ((turn ≡ Spent) × (new ≡ old))
      (MatchBool old.live.broken ((turn ≡ Broken) × (new ≡ old))
      (OffersSome answers old most (sending old.live) turn new))
      → TurnTook answers old most turn new
  took_by old new most turn sound some true spent did = was_spent spent did.0 did.1
  took_by old new most turn sound some false living did = took_unspent old new most turn sound some living _ refl did

  pub turn-took : (old new : LinkView W) (most : ℕ) (turn : Turn) → Sound old.life old.rates old.live → 1 ≤ most
      → TurnCall answers old most turn new → TurnTook answers old most turn new
  turn-took old new most turn sound some did = took_by old new most turn sound some (is_spent old) refl did
