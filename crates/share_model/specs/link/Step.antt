-- One event of a link: this is what the fold over a list of events repeats.
use Rattle.std.specs.Prelude.{ℕ, List, Option, None, Some}
use Rattle.share_base.specs.declared.command.Reply.{Reply}
use Rattle.share_base.specs.declared.command.Turn.{Turn}
use Rattle.share_base.specs.declared.command.Turn.TheVariants.{Idle}
use Rattle.share_base.specs.declared.command.Outcome.{Outcome}
use Rattle.share_base.specs.declared.command.Outcome.TheVariants.{Replied, Turned}
use Rattle.share_base.specs.declared.command.Event.{Event}
use Rattle.share_base.specs.declared.command.Event.TheVariants.{Commanded, Arrived, Written, Faulted}
use Rattle.share_model.specs.declared.rates.Rate.{Rate}
use Rattle.share_model.specs.link.Live.{Live}
use Rattle.share_model.specs.link.Turns.{Sending, fault_step, sending, write_step}
use Rattle.share_model.specs.link.Arrivals.{arrive_step}
use Rattle.share_model.specs.link.Commands.{command_step}

-- Answers as outcomes, and events of the writer while there is nothing to send

abbrev pub reply_outcome : Live × Reply → Live × Outcome
reply_outcome d = (d.0, Replied d.1)

abbrev pub turn_outcome : Live × Turn → Live × Outcome
turn_outcome d = (d.0, Turned d.1)

abbrev pub write_by : List Rate → Live → ℕ → Option Sending → Live × Turn
write_by rates l k None = (l, Idle)
write_by rates l k (Some s) = write_step rates l s k

abbrev pub fault_by : List Rate → Live → Option Sending → Live × Turn
fault_by rates l None = (l, Idle)
fault_by rates l (Some s) = fault_step rates l s

-- the outcome of an event, and what the link holds after it. An event of the writer comes only while there is a frame
-- to send
abbrev pub live_step : List Rate → Live → Event → Live × Outcome
live_step rates l (Commanded c) = reply_outcome (command_step rates l c)
live_step rates l (Arrived flow body) = reply_outcome (arrive_step l flow body.payload)
live_step rates l (Written k) = turn_outcome (write_by rates l k (sending l))
live_step rates l Faulted = turn_outcome (fault_by rates l (sending l))
