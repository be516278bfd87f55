use Rattle.share_uplink.specs.Passing.{nothing}
use Rattle.share_uplink.proofs.passing.exchange_bytes.Goals as goal

pub returns-in_err-reads-clause-wire : goal.returns-in_err-reads-clause-wire
returns-in_err-reads-clause-wire c = nothing _
