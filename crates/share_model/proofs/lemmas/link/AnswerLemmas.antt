-- The answer to a command or an arrival is neither that the life is spent nor that there is no memory.
use Rattle.std.specs.Prelude.{◌≡◌, ℕ, Bool, true, List, Option, None, Some, refl}
use Rattle.std.proofs.Common.{rules}
use Rattle.std.proofs.lemmas.Bool.{cond_both}
use Rattle.share_base.specs.declared.refusal.Refusal.{Refusal}
use Rattle.share_base.specs.declared.refusal.Refusal.TheVariants.{BufferFull}
use Rattle.share_base.specs.declared.command.Command.{Command}
use Rattle.share_base.specs.declared.command.Command.TheVariants.{MakeCurrency, RemoveCurrency, MakeTicket}
use Rattle.share_base.specs.declared.command.Command.TheVariants.{RemoveTicket, FundCurrency, FundFlow, Unfund}
use Rattle.share_base.specs.declared.command.Command.TheVariants.{OpenFlow, CloseFlow, Hold, Resume, Amend}
use Rattle.share_base.specs.declared.command.Reply.{Reply}
use Rattle.share_base.specs.declared.command.Reply.TheVariants.{Packet, Refused}
use Rattle.share_model.specs.declared.funding.OpenFlow.{OpenFlow as FlowEntry}
use Rattle.share_model.specs.declared.rates.Rate.{Rate}
use Rattle.share_model.specs.funding.Changes.{flow_named}
use Rattle.share_model.specs.link.Answers.{answers_event}
use Rattle.share_model.specs.link.Buffers.{Buffer, buffer_of, is_full}
use Rattle.share_model.specs.link.Live.{Live, with_one_event, by_refusal}
use Rattle.share_model.specs.link.Commands.{command_refusal, change_by_command}
use Rattle.share_model.specs.link.Commands.{command_step}
use Rattle.share_model.specs.link.Arrivals.{accept, arrive_in, arrive_by, arrive_step}

-- a refusal that is the answer to an event
abbrev is_own : Option Refusal → Bool
is_own None = true
is_own (Some r) = answers_event (Refused r)

refusal_own : (rates : List Rate) (l : Live) (c : Command) → is_own (command_refusal rates l c) ≡ true
refusal_own rates l (MakeCurrency name) = grind rules
refusal_own rates l (RemoveCurrency name) = grind rules
refusal_own rates l (MakeTicket amount currency) = grind rules
refusal_own rates l (RemoveTicket ticket) = grind rules
refusal_own rates l (FundCurrency ticket currency) = grind rules
refusal_own rates l (FundFlow ticket flow) = grind rules
refusal_own rates l (Unfund ticket) = grind rules
refusal_own rates l (OpenFlow name limit tariff) = grind rules
refusal_own rates l (CloseFlow name) = grind rules
refusal_own rates l (Hold name) = grind rules
refusal_own rates l (Resume name) = grind rules
refusal_own rates l (Amend ticket amount) = grind rules

done_own : (l : Live) (c : Command) → answers_event (change_by_command l c).1 ≡ true
done_own l (MakeCurrency name) = refl
done_own l (RemoveCurrency name) = refl
done_own l (MakeTicket amount currency) = refl
done_own l (RemoveTicket ticket) = refl
done_own l (FundCurrency ticket currency) = refl
done_own l (FundFlow ticket flow) = refl
done_own l (Unfund ticket) = refl
done_own l (OpenFlow name limit tariff) = refl
done_own l (CloseFlow name) = refl
done_own l (Hold name) = refl
done_own l (Resume name) = refl
done_own l (Amend ticket amount) = refl

by_own : (l : Live) (o : Option Refusal) (done : Live × Reply) → is_own o ≡ true → answers_event done.1 ≡ true
    → answers_event (by_refusal l o done).1 ≡ true
by_own l None done refused did = did
by_own l (Some r) done refused did = refused

pub command-answers : (rates : List Rate) (l : Live) (c : Command) → answers_event (command_step rates l c).1 ≡ true
command-answers rates l c =
    by_own l (command_refusal rates l c) (change_by_command l c) (refusal_own rates l c) (done_own l c)

in_answers : (l : Live) (f : ℕ) (body : List ℕ) (o : Option Buffer) → answers_event (arrive_in l f body o).1 ≡ true
in_answers l f body None = refl
in_answers l f body (Some b) =
    cond_both (is_full b) (with_one_event l, Refused BufferFull) (accept l f body, Packet f b.next)
    (λ (d : Live × Reply). answers_event d.1 ≡ true) (λ _. refl) (λ _. refl)

by_answers : (l : Live) (body : List ℕ) (o : Option FlowEntry) → answers_event (arrive_by l body o).1 ≡ true
by_answers l body None = refl
by_answers l body (Some e) = in_answers l e.number body (buffer_of l.buffers e.number)

pub arrival-answers : (l : Live) (name body : List ℕ) → answers_event (arrive_step l name body).1 ≡ true
arrival-answers l name body = by_answers l body (flow_named l.graph name)
