-- The replies of events.
use Rattle.std.specs.Prelude.{Bool, true, false}
use Rattle.share_base.specs.declared.command.Reply.{Reply}
use Rattle.share_base.specs.declared.command.Reply.TheVariants.{Refused}
use Rattle.share_base.specs.declared.refusal.Refusal.TheVariants.{NoMemory, Spent}

-- whether a reply answers an event: a call that found the life spent, or no memory, made none
abbrev pub answers_event : Reply → Bool
answers_event (Refused NoMemory) = false
answers_event (Refused Spent) = false
answers_event reply = true
