use Rattle.std.proofs.Common.{refl, inl, inr, arith, ap}
use Rattle.share_gateway.specs.ByteQueue.{ByteQueueView}
use Rattle.share_gateway.proofs.OutboxLemmas.{not_taken, is_taken, holds_more}
use Rattle.share_gateway.proofs.outbox.OutboxTellingWriter.offer.Goals as goal
use Rattle.share_gateway.proofs.outbox.OutboxTellingWriter.offer.Goals.{
  then-len-ge-MAX_FRAMES-via-then-len-ge-MAX_FRAMES,
  then-len-ge-MAX_FRAMES-via-else-len-ge-MAX_FRAMES+then-room-piece,
}

pub returns-then-len-ge-MAX_FRAMES : goal.returns-then-len-ge-MAX_FRAMES
returns-then-len-ge-MAX_FRAMES c = (
  rw (← c.self.view_is)
      (not_taken c.self.inside.lengths.items c.self.inside.bytes.bytes c.self.inside.out c.self.inside.allowed
      c.self.invariant.2 _
      (elim c.then-len-ge-MAX_FRAMES.branch [
        | then-len-ge-MAX_FRAMES-via-then-len-ge-MAX_FRAMES w ↦
            inl (omega (arith, w.if-len-ge-MAX_FRAMES.true, c.len.ensures, c.self.inside.lengths.ok.0))
        | then-len-ge-MAX_FRAMES-via-else-len-ge-MAX_FRAMES+then-room-piece w ↦
            inr (omega (arith, w.if-room-piece.true, w.room.ensures, c.self.invariant.0))
      ])),
  refl,
)

pub returns : goal.returns
returns c = (
  refl,
  rw (← c.self.view_is)
      (is_taken c.self.inside.lengths.items c.self.inside.bytes.bytes c.self.inside.out c.self.inside.allowed
      c.self.invariant.2 _
      (omega (arith, c.if-len-ge-MAX_FRAMES.false, c.len.ensures, c.self.inside.lengths.ok.0)) c.self.invariant.1
      (omega (arith, c.if-room-piece.false, c.room.ensures, c.self.invariant.0))),
  rw (← c.self.view_is)
      (holds_more c.self.inside.lengths.items c.self.inside.bytes.bytes c.self.inside.out c.self.inside.allowed
      c.self.invariant.2
      c.push_back_reserved.new.self.items c.push.new.self.bytes c.args.piece.now _
      c.push_back_reserved.ensures.items (ap (λ (q : ByteQueueView). q.bytes) c.push.ensures) refl),
)
