-- Chains of calls on what stands behind the lock: commands of clerks, admissions and turns, in any order.
use Rattle.std.specs.Prelude.{ℕ, List, [], ◌∷◌, map}
use Rattle.share_base.specs.declared.command.Command.{Command}
use Rattle.share_base.specs.declared.command.Reply.{Reply}
use Rattle.share_base.specs.declared.command.Turn.{Turn}
use Rattle.share_model.specs.declared.writer.Answer.{Answer}
use Rattle.share_model.specs.link.Calls.{TurnCall}
use Rattle.share_model.specs.link.View.{LinkView}
use Rattle.share_locked.specs.Calls.{CommandMade, Admission}
use Rattle.share_locked.specs.Views.{LockedView, ClerkView}
use Rattle.share_locked.specs.declared.locked.Admit.{Admit}

-- a call: a clerk before and after it, its command, and the number and the reply that it got. Or it is the result of an
-- admission; or the most bytes that a turn offers, and its result
pub data LockedCall : Type 0 where
  OfClerk : ClerkView → Command → ℕ → Reply → ClerkView → LockedCall
  OfAdmission : Admit → LockedCall
  OfTurn : ℕ → Turn → LockedCall

-- the call was made under the lock, behind which `old` stood before it and `new` after it
abbrev pub LockedCallMade : {W : Type 0} → (W → List ℕ → Answer → W → Type 0) → LockedView W → LockedCall → LockedView W
    → Type 0
LockedCallMade answers old (OfClerk before command number reply after) new =
    CommandMade old before command number reply new after
LockedCallMade answers old (OfAdmission admit) new = Admission old admit new
LockedCallMade answers old (OfTurn most turn) new = TurnCall answers old.recorder.link most turn new.recorder.link

-- each of the later ones was left by a call on the one before it
abbrev pub IsLockedChain : {W : Type 0} → (W → List ℕ → Answer → W → Type 0) → LockedView W → List (LockedView W)
    → Type 0
IsLockedChain answers first [] = Unit {0}
IsLockedChain answers first (next ∷ later) =
    ((call : LockedCall) × LockedCallMade answers first call next) × IsLockedChain answers next later

-- their links
abbrev pub links_of : {W : Type 0} → List (LockedView W) → List (LinkView W)
links_of later = map (λ (l : LockedView _). l.recorder.link) later
