-- Chains of calls on one link: commands, arrivals, turns and declared faults, in any order, whatever their arguments
-- and answers.
use Rattle.std.specs.Prelude.{◌≡◌, ◌⊎◌, ℕ, List, [], ◌∷◌}
use Rattle.share_base.specs.declared.command.Command.{Command}
use Rattle.share_base.specs.declared.command.Reply.{Reply}
use Rattle.share_base.specs.declared.command.Turn.{Turn}
use Rattle.share_model.specs.declared.writer.Answer.{Answer}
use Rattle.share_model.specs.funding.Graph.{NameBytes}
use Rattle.share_model.specs.link.Arrivals.{arrive_step}
use Rattle.share_model.specs.link.Calls.{Steps, CommandCall, TurnCall, TearCall}
use Rattle.share_model.specs.link.Fields.{IsBody}
use Rattle.share_model.specs.link.View.{LinkView}

-- a call: a command and its reply; the flow's name and the payload of a packet, and the reply. Or it is the most bytes
-- that a turn offers, and its result; or the result of a declared fault
pub data Call : Type 0 where
  OfCommand : Command → Reply → Call
  OfArrival : NameBytes → List ℕ → Reply → Call
  OfTurn : ℕ → Turn → Call
  OfTear : Turn → Call

-- the call was made on the link `old`, and left it as `new`. A payload is one that frames of the link's version carry.
-- `answers` relates the writer before a write call, the piece, the answer, and the writer after
abbrev pub CallMade : {W : Type 0} → (W → List ℕ → Answer → W → Type 0) → LinkView W → Call → LinkView W → Type 0
CallMade answers old (OfCommand command reply) new = CommandCall old command reply new
CallMade answers old (OfArrival name payload reply) new =
    IsBody old.live.version payload × Steps (λ _ l. arrive_step l name payload) old reply new
CallMade answers old (OfTurn most turn) new = TurnCall answers old most turn new
CallMade answers old (OfTear turn) new = TearCall old turn new

-- the link `new` is `old` still, or what a call made of it
abbrev pub IsLeft : {W : Type 0} → (W → List ℕ → Answer → W → Type 0) → LinkView W → LinkView W → Type 0
IsLeft answers old new = (new ≡ old) ⊎ ((call : Call) × CallMade answers old call new)

-- each of the later links is what was left of the link before it
abbrev pub IsChain : {W : Type 0} → (W → List ℕ → Answer → W → Type 0) → LinkView W → List (LinkView W) → Type 0
IsChain answers first [] = Unit {0}
IsChain answers first (next ∷ later) = IsLeft answers first next × IsChain answers next later

-- the last link
abbrev pub last_link : {W : Type 0} → LinkView W → List (LinkView W) → LinkView W
last_link first [] = first
last_link first (next ∷ later) = last_link next later
