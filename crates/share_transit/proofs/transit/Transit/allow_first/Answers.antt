use Rattle.std.proofs.Common.{◌≤◌, arith, sym, subst, drop}
use Rattle.share_gateway.specs.Outbox.{allow_more}
use Rattle.share_transit.specs.Transit.{Trails}
use Rattle.share_transit.proofs.TransitLemmas.{first-due, first-due-is, settled-later}
use Rattle.share_transit.proofs.transit.Transit.allow_first.Goals as goal

pub returns-then-from-first-clause-last : goal.returns-then-from-first-clause-last
returns-then-from-first-clause-last c = λ _.
    rw (← c.self.view_is)
    (settled-later c.self.inside.outbox c.in-Some.due.now c.self.inside.due.items (drop 1 c.self.inside.due.items)
    c.self.inside.handed c.self.inside.written c.self.invariant.0
    (first-due-is c.self.inside.due.items c.in-Some.due.now
    (grind (arith, c.in-Some.ensures.variant, c.self.inside.due.ok.0)) c.in-Some.ensures.lookup)
    (omega (arith, c.from.ensures, c.if-from-first.true)))

pub invariant_of-self : goal.invariant_of-self
invariant_of-self c = (
  subst (λ o. Trails o c.pop_front.new.self.items) (sym c.allow.ensures)
      (subst (λ ds. Trails (allow_more c.in-Some.due.now.count c.self.inside.outbox) ds) (sym c.pop_front.ensures.rest)
      (first-due c.self.inside.outbox c.in-Some.due.now (drop 1 c.self.inside.due.items)
      (subst (λ ds. Trails c.self.inside.outbox ds)
      (first-due-is c.self.inside.due.items c.in-Some.due.now
      (grind (arith, c.in-Some.ensures.variant, c.self.inside.due.ok.0)) c.in-Some.ensures.lookup)
      c.self.invariant.0))),
  c.self.invariant.1,
  subst (λ n. 4096 ≤ n) (sym c.pop_front.ensures.capacity) c.self.invariant.2,
)
