use Rattle.std.proofs.Common.{◌∙◌, refl, sym}
use Rattle.share_core.proofs.PayloadLemmas.{stands_in, stands_out, busy_in, popped_out, popped_as}
use Rattle.share_core.proofs.payload_buffers.PayloadBuffers.pop_at.Goals as goal

pub pop_at-requires-clause-there : goal.pop_at-requires-clause-there
pop_at-requires-clause-there c =
    stands_in c.self.inside.buffers c.args.self.now c.self.view_is c.args.handle.now c.requires.there

pub pop_at-requires-clause-busy : goal.pop_at-requires-clause-busy
pop_at-requires-clause-busy c =
    sym (busy_in c.self.inside.buffers c.args.self.now c.self.view_is c.args.handle.now.flow) ∙ c.requires.busy

pub returns-clause-head : goal.returns-clause-head
returns-clause-head c =
    popped_out c.self.inside.buffers c.args.self.now c.self.view_is c.args.handle.now.flow c.pop_at.result
    c.pop_at.ensures.head

pub returns-clause-after : goal.returns-clause-after
returns-clause-after c =
    popped_as c.self.inside.buffers c.args.self.now c.self.view_is c.args.handle.now.flow c.pop_at.new.self
    c.pop_at.ensures.after

pub returns-clause-stands : goal.returns-clause-stands
returns-clause-stands c = stands_out c.pop_at.new.self _ refl c.args.handle.now c.pop_at.ensures.stands
