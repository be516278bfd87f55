use Rattle.std.proofs.Common.{◌≤◌, length, arith, ap, sym, subst}
use Rattle.share_transit.specs.Transit.{Trails}
use Rattle.share_transit.proofs.TransitLemmas.{as_view, one-more-due}
use Rattle.share_transit.proofs.TurnLemmas.{stays-into, turned-trails}
use Rattle.share_transit.proofs.transit.Transit.turn.Goals as goal

pub invariant_of-self : goal.invariant_of-self
invariant_of-self g c = (
  subst (λ ds. Trails c.turn-turned.new.outbox ds) (sym c.push_back_reserved.ensures.items)
      (turned-trails c.args.book.now.audited c.self.inside.outbox c.self.inside.due.items c.in-Wrote.flow c.in-Wrote.seq
      c.in-Wrote.count _ c.turn-turned.new.self.audited c.turn-turned.new.outbox c.self.invariant.0
      c.in-Wrote.ensures.turned),
  c.self.invariant.1,
  subst (λ n. 4096 ≤ n) (sym c.push_back_reserved.ensures.capacity) c.self.invariant.2,
)

pub returns-in-Wrote-clause-turned : goal.returns-in-Wrote-clause-turned
returns-in-Wrote-clause-turned g c =
    rw (← c.self.view_is)
    (record {
      outbox = c.turn-turned.new.outbox;
      turns = c.in-Wrote.ensures.turned;
      transit =
          one-more-due c.turn-turned.new.outbox c.self.inside.due.items c.push_back_reserved.new.self.items
          c.self.inside.handed c.self.inside.written _ c.in-Wrote.count c.turn-turned.new.self.audited.text.bytes
          c.push_back_reserved.ensures.items
          (omega (arith, c.from.ensures, ap (λ bs. length bs) c.text.ensures));
    })

pub returns-in_default : goal.returns-in_default
returns-in_default g c = record {
  turned =
      rw (← c.self.view_is)
      (stays-into (as_view c.self.inside.outbox c.self.inside.due.items c.self.inside.handed c.self.inside.written)
      c.args.book.now.audited c.turn-turned.result c.turn-turned.new.outbox c.turn-turned.new.self.audited
      c.in_default.not-Wrote c.turn-turned.ensures.turned);
  plan = c.turn-turned.ensures.plan;
}
