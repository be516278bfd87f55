use Rattle.std.proofs.Common.{◌∙◌}
use Rattle.share_core.proofs.PayloadLemmas.{some_in, count_as, closed_as}
use Rattle.share_core.proofs.payload_buffers.PayloadBuffers.close.Goals as goal

pub close-requires : goal.close-requires
close-requires c = some_in c.self.inside.buffers c.args.self.now c.self.view_is c.args.flow c.requires

pub returns-clause-count : goal.returns-clause-count
returns-clause-count c =
    c.close.ensures.count ∙ count_as c.self.inside.buffers c.args.self.now c.self.view_is c.args.flow

pub returns-clause-after : goal.returns-clause-after
returns-clause-after c =
    closed_as c.self.inside.buffers c.args.self.now c.self.view_is c.args.flow c.close.new.self c.close.ensures.after
