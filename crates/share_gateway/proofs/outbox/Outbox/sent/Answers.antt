use Rattle.share_gateway.specs.Outbox.{frames_in}
use Rattle.share_gateway.proofs.OutboxHistoryLemmas.{sends_few}
use Rattle.share_gateway.proofs.outbox.Outbox.sent.Goals as goal

pub invariant_of-self : goal.invariant_of-self
invariant_of-self c = (
  c.self.invariant.0,
  c.self.invariant.1,
  c.self.invariant.2,
  c.self.invariant.3,
  c.self.invariant.4,
  sends_few (record {
    frames = frames_in c.self.inside.lengths.items c.self.inside.bytes.bytes;
    out = c.self.inside.out;
    allowed = c.self.inside.allowed;
  }) c.args.count c.self.invariant.5 (rw (← c.self.view_is) at c.requires),
  c.self.invariant.6,
)
