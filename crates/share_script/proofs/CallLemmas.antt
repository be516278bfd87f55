-- The calls of an engine and its writer: none, or one.
use Rattle.std.specs.Prelude.{◌≡◌, ◌≤◌, ℕ, Bool, true, false, List, Option, None, Some, MatchBool}
use Rattle.std.proofs.Common.{inl, inr, refl, sym, subst}
use Rattle.share_base.specs.declared.command.Command.{Command}
use Rattle.share_base.specs.declared.refusal.Refusal.TheVariants.{Spent as SpentRefusal}
use Rattle.share_base.specs.declared.command.Reply.{Reply}
use Rattle.share_base.specs.declared.command.Reply.TheVariants.{Refused}
use Rattle.share_base.specs.declared.command.Turn.{Turn}
use Rattle.share_base.specs.declared.command.Turn.TheVariants.{Wrote, Torn, Idle, Again, Broken, Spent}
use Rattle.share_model.specs.declared.rates.Rate.{Rate}
use Rattle.share_model.specs.declared.writer.Answer.{Answer}
use Rattle.share_model.specs.link.Live.{Live}
use Rattle.share_model.specs.link.Turns.{Sending, sending}
use Rattle.share_model.specs.link.Commands.{command_step}
use Rattle.share_model.specs.link.Arrivals.{arrive_step}
use Rattle.share_model.specs.link.View.{LinkView}
use Rattle.share_model.specs.link.Calls.{is_spent, Stepped, Steps, CommandCall, OffersSome, TurnCall, Tears, TearCall}
use Rattle.share_model.specs.run.Sound.{Sound}
use Rattle.share_model.specs.io.Told.{Told, WasTold}
use Rattle.share_model.specs.io.Calls.{Called, no_call, CallFailed}
use Rattle.share_model.proofs.lemmas.io.CallLemmas.{called_once, call_failed_once}
use Rattle.share_model.specs.text.Answering.{TakesAll}
use Rattle.share_model.proofs.lemmas.text.TurnTalkLemmas.{turn-failed}
use Rattle.share_script.specs.Script.{is_torn}

uncalled : {W : Type 0} (answers : W → List ℕ → Answer → W → Type 0) (w v : W) → v ≡ w → Called answers w v
uncalled answers w v e = subst (λ u. Called answers w u) (sym e) no_call

module _ {W : Type 0} (answers : W → List ℕ → Answer → W → Type 0) (old new : LinkView W) where
  same_called : new ≡ old → Called answers old.writer new.writer
  same_called e = subst (λ (s : LinkView W). Called answers old.writer s.writer) (sym e) no_call

  steps_called : (next : List Rate → Live → Live × Reply) (reply : Reply) (b : Bool)
      → MatchBool b ((reply ≡ Refused SpentRefusal) × (new ≡ old)) (Stepped (next old.rates old.live) old reply new)
      → Called answers old.writer new.writer
  steps_called next reply true did = same_called did.1
  steps_called next reply false did = uncalled answers old.writer new.writer did.rest.writer

  pub command-called : (c : Command) (reply : Reply) → CommandCall old c reply new
      → Called answers old.writer new.writer
  command-called c reply (inl did) = same_called did.unchanged
  command-called c reply (inr did) = steps_called (λ rates l. command_step rates l c) reply (is_spent old) did

  pub arrive-called : (flow body : List ℕ) (reply : Reply) → Steps (λ rates l. arrive_step l flow body) old reply new
      → Called answers old.writer new.writer
  arrive-called flow body reply did = steps_called (λ rates l. arrive_step l flow body) reply (is_spent old) did

  offers_called : (most : ℕ) (turn : Turn) (o : Option Sending) → OffersSome answers old most o turn new
      → Called answers old.writer new.writer
  offers_called most turn None did = same_called did.1
  offers_called most turn (Some s) did = called_once _ did.answer did.answered

  turn_by : (most : ℕ) (turn : Turn) (o : Option Sending) (b d : Bool)
      → MatchBool b ((turn ≡ Spent) × (new ≡ old))
      (MatchBool d ((turn ≡ Broken) × (new ≡ old)) (OffersSome answers old most o turn new))
      → Called answers old.writer new.writer
  turn_by most turn o true d did = same_called did.1
  turn_by most turn o false true did = same_called did.1
  turn_by most turn o false false did = offers_called most turn o did

  pub turn-called : (most : ℕ) (turn : Turn) → TurnCall answers old most turn new → Called answers old.writer new.writer
  turn-called most turn did = turn_by most turn (sending old.live) (is_spent old) old.live.broken did

  tears_called : (turn : Turn) (o : Option Sending) → Tears old o turn new → Called answers old.writer new.writer
  tears_called turn None did = same_called did.1
  tears_called turn (Some s) did = uncalled answers old.writer new.writer did.rest.writer

  tear_by : (turn : Turn) (o : Option Sending) (b d : Bool)
      → MatchBool b ((turn ≡ Spent) × (new ≡ old))
      (MatchBool d ((turn ≡ Broken) × (new ≡ old)) (Tears old o turn new)) → Called answers old.writer new.writer
  tear_by turn o true d did = same_called did.1
  tear_by turn o false true did = same_called did.1
  tear_by turn o false false did = tears_called turn o did

  pub tear-called : (turn : Turn) → TearCall old turn new → Called answers old.writer new.writer
  tear-called turn did = tear_by turn (sending old.live) (is_spent old) old.live.broken did

-- a turn on a writer that takes all is torn only if the writer failed
pub torn-failed : {W : Type 0} (told : W → Option Told) (answers : W → List ℕ → Answer → W → Type 0)
    → ((before : W) (piece : List ℕ) (answer : Answer) (after : W) → answers before piece answer after
    → WasTold (told before) piece answer (told after))
    → TakesAll answers → (old new : LinkView W) (most : ℕ) (turn : Turn) → Sound old.life old.rates old.live → 1 ≤ most
    → is_torn turn ≡ true → TurnCall answers old most turn new → CallFailed answers old.writer new.writer
torn-failed told answers law all old new most turn sound some torn did = torn_by turn torn did
  where
    torn_by : (t : Turn) → is_torn t ≡ true → TurnCall answers old most t new → CallFailed answers old.writer new.writer
    torn_by (Torn flow seq j) e d = let failed =
        turn-failed told answers law all old new most (Torn flow seq j) flow seq j sound some refl d in
        call_failed_once failed.0 failed.1
    torn_by (Wrote flow seq k whole) e d = cc
    torn_by Idle e d = cc
    torn_by Again e d = cc
    torn_by Broken e d = cc
    torn_by Spent e d = cc
