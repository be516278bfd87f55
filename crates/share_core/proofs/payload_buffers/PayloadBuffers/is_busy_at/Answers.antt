use Rattle.std.proofs.Common.{◌∙◌, sym}
use Rattle.share_core.proofs.PayloadLemmas.{stands_in, busy_in}
use Rattle.share_core.proofs.payload_buffers.PayloadBuffers.is_busy_at.Goals as goal

pub is_busy_at-requires : goal.is_busy_at-requires
is_busy_at-requires c = stands_in c.self.inside.buffers c.args.self.now c.self.view_is c.args.handle.now c.requires

pub returns : goal.returns
returns c =
    c.is_busy_at.ensures ∙ sym (busy_in c.self.inside.buffers c.args.self.now c.self.view_is c.args.handle.now.flow)
