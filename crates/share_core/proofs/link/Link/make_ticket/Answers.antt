use Rattle.std.proofs.Common.{refl, inr}
use Rattle.share_base.specs.declared.command.Command.TheVariants.{MakeTicket}
use Rattle.share_core.proofs.LifeLemmas.{living}
use Rattle.share_core.proofs.UnchangedTicketLemmas.{AreUnmoved, kept-unmoved, sound-unmoved, steps-unmoved}
use Rattle.share_core.proofs.link.Link.make_ticket.Goals as goal

pub returns-in-Ok : goal.returns-in-Ok
returns-in-Ok g c =
    let unmoved : AreUnmoved _ _ =
    record { flows = refl; tickets = c.leaves_tickets.ensures.make_ticket c.args.amount c.args.currency } in
    rw (c.in-Ok.ensures.done.1, c.in-Ok.ensures.done.2)
    (inr (steps-unmoved c.self.invariant.1 _ c.self.view_is c.requires
    (MakeTicket c.args.amount c.args.currency) c.in-Ok.ensures.done.0 _ _ refl unmoved))

pub invariant_of-self-in-Ok : goal.invariant_of-self-in-Ok
invariant_of-self-in-Ok g c =
    let unmoved : AreUnmoved _ _ =
    record { flows = refl; tickets = c.leaves_tickets.ensures.make_ticket c.args.amount c.args.currency } in
    rw (c.in-Ok.ensures.done.2) (
      (c.self.invariant.0.0, kept-unmoved _ _ _ unmoved c.self.invariant.0.1),
      sound-unmoved c.self.invariant.1 (living _ _ c.self.view_is c.requires c.self.invariant.1)
          (MakeTicket c.args.amount c.args.currency) c.in-Ok.ensures.done.0 _ refl unmoved,
    )
