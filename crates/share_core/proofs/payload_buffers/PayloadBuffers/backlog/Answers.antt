use Rattle.std.proofs.Common.{◌∙◌}
use Rattle.share_core.proofs.PayloadLemmas.{backlog_as}
use Rattle.share_core.proofs.payload_buffers.PayloadBuffers.backlog.Goals as goal

pub returns : goal.returns
returns c = c.backlog.ensures ∙ backlog_as c.self.inside.buffers c.args.self.now c.self.view_is c.args.flow
