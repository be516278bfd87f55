use Rattle.share_config.proofs.EndpointLemmas.{IsOnceTo}
use Rattle.share_config.proofs.endpoint.check_once.Given as goal

abbrev pub invariant-loop-index : goal.invariant-loop-index
invariant-loop-index l = IsOnceTo l.endpoints l.index
