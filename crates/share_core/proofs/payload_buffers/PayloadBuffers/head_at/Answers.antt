use Rattle.share_core.proofs.PayloadLemmas.{stands_in, head_out}
use Rattle.share_core.proofs.payload_buffers.PayloadBuffers.head_at.Goals as goal

pub head_at-requires : goal.head_at-requires
head_at-requires c = stands_in c.self.inside.buffers c.args.self.now c.self.view_is c.args.handle.now c.requires

pub returns : goal.returns
returns c =
    head_out c.self.inside.buffers c.args.self.now c.self.view_is c.args.handle.now.flow c.head_at.result (λ h. h.0)
    (λ h. h.1.now) c.head_at.ensures
