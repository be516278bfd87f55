use Rattle.share_gateway.proofs.OutboxLemmas.{ready_same}
use Rattle.share_gateway.proofs.outbox.Outbox.ready.Goals as goal

pub returns : goal.returns
returns c =
    rw (← c.self.view_is)
    (ready_same c.self.inside.lengths.items c.self.inside.bytes.bytes c.self.inside.out c.self.inside.allowed
    c.self.invariant.2
    c.as_slice.result.now c.as_slice.ensures)
