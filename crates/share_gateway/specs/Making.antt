-- One command of an opening, made on a link.
use Rattle.std.specs.Prelude.{◌≡◌, ℕ, true, false, List, [], ◌∷◌}
use Rattle.share_base.specs.declared.command.Command.{Command}
use Rattle.share_base.specs.declared.command.Outcome.{Outcome}
use Rattle.share_base.specs.declared.command.Outcome.TheVariants.{Replied}
use Rattle.share_model.specs.declared.rates.Rate.{Rate}
use Rattle.share_model.specs.link.Calls.{KeepsRest}
use Rattle.share_model.specs.link.Commands.{command_step}
use Rattle.share_model.specs.link.Fields.{HasCommandFields}
use Rattle.share_model.specs.link.Live.{Live}
use Rattle.share_model.specs.link.View.{LinkView}
use Rattle.share_gateway.specs.declared.openings.PlanCommand.{PlanCommand}
use Rattle.share_gateway.specs.declared.opened.NotOpened.{NotOpened}
use Rattle.share_gateway.specs.declared.opened.NotOpened.TheVariants.{NoMemory, Range, Refused}
use Rattle.share_gateway.specs.Opened.{refusals_in, is_book_life}

-- the answer to the command
abbrev pub answer_to : List Rate → Live → Command → Outcome
answer_to rates l c = Replied (command_step rates l c).1

-- the command was not refused, and the link is what it left
pub record IsMade {W : Type 0} (old : LinkView W) (planned : PlanCommand) (new : LinkView W) : Type 0 where
  pub fields : HasCommandFields planned.command
  pub allowed : refusals_in (answer_to old.rates old.live planned.command) ≡ []
  pub live : new.live ≡ (command_step old.rates old.live planned.command).0
  pub rest : KeepsRest old new

-- memory was refused, or the command, for its entry
abbrev pub IsNotMade : {W : Type 0} → LinkView W → PlanCommand → NotOpened → Type 0
IsNotMade old planned NoMemory = Unit {0}
IsNotMade old planned Range = ⊥
IsNotMade old planned (Refused entry refusal) =
    (entry ≡ planned.entry) × (refusals_in (answer_to old.rates old.live planned.command) ≡ refusal ∷ [])

-- the life is not a book's, or memory was refused
abbrev pub IsNoEngine : ℕ → NotOpened → Type 0
IsNoEngine events NoMemory = is_book_life events ≡ true
IsNoEngine events Range = is_book_life events ≡ false
IsNoEngine events (Refused entry refusal) = ⊥
