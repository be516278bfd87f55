use Rattle.share_config.proofs.EndpointLemmas.{HasPorts}
use Rattle.share_config.proofs.endpoint.push_ports.Given as goal

abbrev pub invariant-loop-index : goal.invariant-loop-index
invariant-loop-index l = HasPorts l.initial.list.items l.list.items l.location l.ports l.index
