use Rattle.std.proofs.Common.{◌∙◌}
use Rattle.share_core.proofs.PayloadLemmas.{count_as}
use Rattle.share_core.proofs.payload_buffers.PayloadBuffers.len.Goals as goal

pub returns : goal.returns
returns c = c.len.ensures.count ∙ count_as c.self.inside.buffers c.args.self.now c.self.view_is c.args.flow
