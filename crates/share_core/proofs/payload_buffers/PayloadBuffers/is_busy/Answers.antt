use Rattle.std.proofs.Common.{◌∙◌, sym}
use Rattle.share_core.proofs.PayloadLemmas.{busy_in}
use Rattle.share_core.proofs.payload_buffers.PayloadBuffers.is_busy.Goals as goal

pub returns : goal.returns
returns c = c.is_busy.ensures ∙ sym (busy_in c.self.inside.buffers c.args.self.now c.self.view_is c.args.flow)
