use Rattle.share_uplink.specs.Passing.{nothing}
use Rattle.share_uplink.proofs.uplink.Uplink.work.Goals as goal

pub returns-in-Away-clause-wire : goal.returns-in-Away-clause-wire
returns-in-Away-clause-wire c = nothing _
