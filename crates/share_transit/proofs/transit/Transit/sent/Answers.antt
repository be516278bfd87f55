use Rattle.std.proofs.Common.{sym, subst}
use Rattle.share_transit.specs.Transit.{Trails}
use Rattle.share_transit.proofs.TransitLemmas.{sent-trails}
use Rattle.share_transit.proofs.transit.Transit.sent.Goals as goal

pub invariant_of-self : goal.invariant_of-self
invariant_of-self c = (
  subst (λ o. Trails o c.self.inside.due.items) (sym c.sent.ensures)
      (sent-trails c.self.inside.outbox c.self.inside.due.items c.args.count c.self.invariant.0
      (rw (← c.self.view_is) at c.requires)),
  c.self.invariant.1,
  c.self.invariant.2,
)
