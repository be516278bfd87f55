use Rattle.std.proofs.Common.{arith}
use Rattle.share_gateway.proofs.OutboxLemmas.{room_is, no_room_is}
use Rattle.share_gateway.proofs.outbox.Outbox.room.Goals as goal

pub returns-then-len-lt-MAX_FRAMES : goal.returns-then-len-lt-MAX_FRAMES
returns-then-len-lt-MAX_FRAMES c =
    rw (← c.self.view_is)
    (room_is c.self.inside.lengths.items c.self.inside.bytes.bytes c.self.inside.out c.self.inside.allowed
    c.self.invariant.2
    c.room.result (omega (arith, c.if-len-lt-MAX_FRAMES.true, c.len.ensures, c.self.inside.lengths.ok.0))
    (omega (arith, c.room.ensures, c.self.invariant.0)))

pub returns-else-len-lt-MAX_FRAMES : goal.returns-else-len-lt-MAX_FRAMES
returns-else-len-lt-MAX_FRAMES c =
    rw (← c.self.view_is)
    (no_room_is c.self.inside.lengths.items c.self.inside.bytes.bytes c.self.inside.out c.self.inside.allowed
    c.self.invariant.2
    (omega (arith, c.if-len-lt-MAX_FRAMES.false, c.len.ensures, c.self.inside.lengths.ok.0)))
