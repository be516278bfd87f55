-- The effect of each call of a link, as a relation between the link before it, the answer, and the link after it.
use Rattle.std.specs.Prelude.{◌≡◌, ◌⊎◌, ◌==◌, ℕ, Bool, true, false, List, take, Option, None, Some, MatchBool}
use Rattle.std.specs.Prelude.{if◌then◌else◌}
use Rattle.share_base.specs.declared.refusal.Refusal.TheVariants.{NoMemory, Spent as SpentRefusal}
use Rattle.share_base.specs.declared.command.Command.{Command}
use Rattle.share_base.specs.declared.command.Reply.{Reply}
use Rattle.share_base.specs.declared.command.Reply.TheVariants.{Refused}
use Rattle.share_base.specs.declared.command.Turn.{Turn}
use Rattle.share_base.specs.declared.command.Turn.TheVariants.{Idle, Again, Broken, Spent}
use Rattle.share_model.specs.declared.rates.Rate.{Rate}
use Rattle.share_model.specs.declared.writer.Answer.{Answer}
use Rattle.share_model.specs.declared.writer.Answer.TheVariants.{Accepted, Interrupted, Failed}
use Rattle.share_model.specs.link.Live.{Live, life_is_spent}
use Rattle.share_model.specs.link.Turns.{Sending, sending, rest_of, write_step, fault_step}
use Rattle.share_model.specs.link.Commands.{takes_memory, command_refusal, command_step}
use Rattle.share_model.specs.link.View.{LinkView}

abbrev pub is_spent : {W : Type 0} → LinkView W → Bool
is_spent s = life_is_spent s.life s.live

-- life, tariffs and writer stayed as they were
pub record KeepsRest {W : Type 0} (old new : LinkView W) : Type 0 where
  pub life : new.life ≡ old.life
  pub rates : new.rates ≡ old.rates
  pub writer : new.writer ≡ old.writer

-- the call made one event, and the answer and the state are those of its step
pub record Stepped {W A : Type 0} (next : Live × A) (old : LinkView W) (answer : A) (new : LinkView W) : Type 0 where
  pub live : new.live ≡ next.0
  pub answer_is : answer ≡ next.1
  pub rest : KeepsRest old new

-- if the life is spent, the call is refused and is no event; otherwise it is the event of this step
abbrev pub Steps : {W : Type 0} → (List Rate → Live → Live × Reply) → LinkView W → Reply → LinkView W → Type 0
Steps step old reply new =
    MatchBool (is_spent old) ((reply ≡ Refused SpentRefusal) × (new ≡ old))
    (Stepped (step old.rates old.live) old reply new)

-- a command that takes memory was refused it, and nothing changed; nothing but that was wrong with the command
pub record FoundNoMemory {W : Type 0} (old : LinkView W) (c : Command) (reply : Reply) (new : LinkView W) : Type 0 where
  pub reply_is : reply ≡ Refused NoMemory
  pub unchanged : new ≡ old
  pub living : is_spent old ≡ false
  pub takes : takes_memory c ≡ true
  pub allowed : command_refusal old.rates old.live c ≡ None

-- in a spent life the command is refused and is no event; otherwise it is the event of its step
abbrev pub CommandStep : {W : Type 0} → LinkView W → Command → Reply → LinkView W → Type 0
CommandStep old c reply new = Steps (λ rates l. command_step rates l c) old reply new

-- a command is its step, or found no memory
abbrev pub CommandCall : {W : Type 0} → LinkView W → Command → Reply → LinkView W → Type 0
CommandCall old c reply new = FoundNoMemory old c reply new ⊎ CommandStep old c reply new

-- the effect of an answer of the writer on the link
abbrev pub step_by_answer : List Rate → Live → Sending → Answer → Live × Turn
step_by_answer rates l s (Accepted k) = if k == 0 then fault_step rates l s else write_step rates l s k
step_by_answer rates l s Interrupted = (l, Again)
step_by_answer rates l s Failed = fault_step rates l s

-- the writer answered once to the next bytes of the frame, at most `most` of them, and its answer decided the turn
pub record OfferDecided {W : Type 0} (answers : W → List ℕ → Answer → W → Type 0) (old : LinkView W) (most : ℕ)
    (s : Sending)
    (turn : Turn) (new : LinkView W) : Type 0 where
  pub answer : Answer
  pub answered : answers old.writer (take most (rest_of s)) answer new.writer
  pub live : new.live ≡ (step_by_answer old.rates old.live s answer).0
  pub turn_is : turn ≡ (step_by_answer old.rates old.live s answer).1
  pub life : new.life ≡ old.life
  pub rates : new.rates ≡ old.rates

abbrev pub OffersSome : {W : Type 0} → (W → List ℕ → Answer → W → Type 0) → LinkView W → ℕ → Option Sending → Turn
    → LinkView W → Type 0
OffersSome answers old most None turn new = (turn ≡ Idle) × (new ≡ old)
OffersSome answers old most (Some s) turn new = OfferDecided answers old most s turn new

-- first Spent is tested, then Broken, then Idle: nothing to send; otherwise the writer answers once
abbrev pub TurnCall : {W : Type 0} → (W → List ℕ → Answer → W → Type 0) → LinkView W → ℕ → Turn → LinkView W → Type 0
TurnCall answers old most turn new =
    MatchBool (is_spent old) ((turn ≡ Spent) × (new ≡ old))
    (MatchBool old.live.broken ((turn ≡ Broken) × (new ≡ old))
    (OffersSome answers old most (sending old.live) turn new))

-- the writer was declared failed, and was not called
abbrev pub Tears : {W : Type 0} → LinkView W → Option Sending → Turn → LinkView W → Type 0
Tears old None turn new = (turn ≡ Idle) × (new ≡ old)
Tears old (Some s) turn new = Stepped (fault_step old.rates old.live s) old turn new

abbrev pub TearCall : {W : Type 0} → LinkView W → Turn → LinkView W → Type 0
TearCall old turn new =
    MatchBool (is_spent old) ((turn ≡ Spent) × (new ≡ old))
    (MatchBool old.live.broken ((turn ≡ Broken) × (new ≡ old)) (Tears old (sending old.live) turn new))
