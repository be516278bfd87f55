use Rattle.std.proofs.Common.{ap, ◌∙◌}
use Rattle.std.specs.FinMap.{get}
use Rattle.share_stride.proofs.SoundQueueLemmas.{near_in_view}
use Rattle.share_stride.proofs.queue.Queue.position.Goals as goal

pub returns-clause-near : goal.returns-clause-near
returns-clause-near c =
    near_in_view _ _ c.args.flow c.at.result c.self.view_is c.self.invariant.sound
    (c.at.ensures ∙ ap (get c.self.inside.clients.by_flow) c.in-Some.ensures.flow)
