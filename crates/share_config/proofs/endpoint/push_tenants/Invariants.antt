use Rattle.share_config.proofs.EndpointLemmas.{HasTenants}
use Rattle.share_config.proofs.endpoint.push_tenants.Given as goal

abbrev pub invariant-loop-index : goal.invariant-loop-index
invariant-loop-index l = HasTenants l.initial.list.items l.list.items l.tenants l.index
