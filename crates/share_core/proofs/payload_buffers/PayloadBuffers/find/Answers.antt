use Rattle.share_core.proofs.PayloadLemmas.{found_out}
use Rattle.share_core.proofs.payload_buffers.PayloadBuffers.find.Goals as goal

pub returns : goal.returns
returns c = found_out c.self.inside.buffers c.args.self.now c.self.view_is c.args.flow c.find.result c.find.ensures
