use Rattle.share_flows.proofs.RingLemmas.{head_read}
use Rattle.share_flows.proofs.buffers.Buffers.head_at.Goals as goal

pub returns : goal.returns
returns c =
    head_read _ _ c.args.handle.now c.index.result.now c.self.view_is c.requires c.index.ensures c.head.result
    (λ h. h.0) (λ h. h.1.now) c.head.ensures
