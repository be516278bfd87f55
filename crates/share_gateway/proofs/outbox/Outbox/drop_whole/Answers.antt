use Rattle.std.proofs.Common.{arith, ap}
use Rattle.share_gateway.specs.ByteQueue.{ByteQueueView}
use Rattle.share_gateway.proofs.OutboxLemmas.{first_is, none_whole, first_stays, first_goes}
use Rattle.share_gateway.proofs.outbox.Outbox.drop_whole.Goals as goal

pub returns-in-None-clause-last : goal.returns-in-None-clause-last
returns-in-None-clause-last c = λ _.
    rw (← c.self.view_is)
    (none_whole c.self.inside.lengths.items c.self.inside.bytes.bytes c.self.inside.out c.self.inside.allowed
    c.self.invariant.2
    (grind (arith, c.in-None.ensures.variant, c.self.inside.lengths.ok.0)))

pub returns-then-self-length-clause-last : goal.returns-then-self-length-clause-last
returns-then-self-length-clause-last c = λ _.
    rw (← c.self.view_is)
    (first_stays c.self.inside.lengths.items c.self.inside.bytes.bytes c.self.inside.out c.self.inside.allowed
    c.self.invariant.2
    c.in-Some.length.now
    (first_is c.self.inside.lengths.items c.in-Some.length.now
    (grind (arith, c.in-Some.ensures.variant, c.self.inside.lengths.ok.0)) c.in-Some.ensures.lookup)
    c.if-self-length.true)

pub returns-clause-same : goal.returns-clause-same
returns-clause-same c =
    rw (← c.self.view_is)
    (first_goes c.self.inside.lengths.items c.self.inside.bytes.bytes c.self.inside.out c.self.inside.allowed
    c.self.invariant.2
    c.in-Some.length.now c.pop_front.new.self.items c.give.new.self.bytes
    (first_is c.self.inside.lengths.items c.in-Some.length.now
    (grind (arith, c.in-Some.ensures.variant, c.self.inside.lengths.ok.0)) c.in-Some.ensures.lookup)
    c.if-self-length.false c.pop_front.ensures.rest (ap (λ (q : ByteQueueView). q.bytes) c.give.ensures))
