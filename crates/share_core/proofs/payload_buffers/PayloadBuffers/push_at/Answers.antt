use Rattle.share_core.proofs.PayloadLemmas.{stands_in, numbers_in, pushed_out, full_back}
use Rattle.share_core.proofs.payload_buffers.PayloadBuffers.push_at.Goals as goal

pub push_at-requires-clause-there : goal.push_at-requires-clause-there
push_at-requires-clause-there c =
    stands_in c.self.inside.buffers c.args.self.now c.self.view_is c.args.handle.now c.requires.there

pub push_at-requires-clause-numbers : goal.push_at-requires-clause-numbers
push_at-requires-clause-numbers c =
    numbers_in c.self.inside.buffers c.args.self.now c.self.view_is c.args.handle.now.flow c.requires.numbers

pub returns-clause-ok : goal.returns-clause-ok
returns-clause-ok c =
    pushed_out c.self.inside.buffers c.args.self.now c.self.view_is c.args.handle.now.flow c.push_at.result
    c.push_at.new.self
    c.args.body c.push_at.ensures.ok

pub returns-clause-full : goal.returns-clause-full
returns-clause-full c =
    full_back c.self.inside.buffers c.args.self.now c.self.view_is c.args.handle.now.flow c.push_at.result
    c.push_at.new.self
    c.args.body c.push_at.ensures.full
