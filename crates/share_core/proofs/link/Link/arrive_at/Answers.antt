use Rattle.share_model.specs.funding.Changes.{flow_named}
use Rattle.share_core.proofs.ArrivalLemmas.{free-there}
use Rattle.share_core.proofs.link.Link.arrive_at.Goals as goal

pub accept-requires-clause-there : goal.accept-requires-clause-there
accept-requires-clause-there g c =
    free-there c.args.self.now.live.buffers (flow_named c.args.self.now.live.graph c.args.name.now) c.args.number
    c.requires.free
