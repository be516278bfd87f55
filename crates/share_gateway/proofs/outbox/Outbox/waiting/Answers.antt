use Rattle.share_gateway.proofs.OutboxLemmas.{waiting_is}
use Rattle.share_gateway.proofs.outbox.Outbox.waiting.Goals as goal

pub returns : goal.returns
returns c =
    rw (← c.self.view_is)
    (waiting_is c.self.inside.lengths.items c.self.inside.bytes.bytes c.self.inside.out c.self.inside.allowed
    c.self.invariant.2 c.len.result c.len.ensures)
