use Rattle.share_core.proofs.PayloadLemmas.{none_in, opened_out, same_out}
use Rattle.share_core.proofs.payload_buffers.PayloadBuffers.open.Goals as goal

pub open-requires : goal.open-requires
open-requires c = none_in c.self.inside.buffers c.args.self.now c.self.view_is c.args.flow c.requires

pub returns-clause-ok : goal.returns-clause-ok
returns-clause-ok c =
    opened_out c.self.inside.buffers c.args.self.now c.self.view_is c.args.flow c.args.limit c.open.result
    c.open.new.self _ c.open.ensures.ok

pub returns-clause-refused : goal.returns-clause-refused
returns-clause-refused c =
    same_out c.self.inside.buffers c.args.self.now c.self.view_is c.open.result c.open.new.self _
    c.open.ensures.refused
