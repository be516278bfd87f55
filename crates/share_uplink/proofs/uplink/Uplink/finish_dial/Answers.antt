use Rattle.share_uplink.specs.Passing.{nothing}
use Rattle.share_uplink.proofs.uplink.Uplink.finish_dial.Goals as goal

pub returns-then-not-self-clause-wire : goal.returns-then-not-self-clause-wire
returns-then-not-self-clause-wire c = nothing _

pub returns-then-not-connect-clause-wire : goal.returns-then-not-connect-clause-wire
returns-then-not-connect-clause-wire c = nothing _
