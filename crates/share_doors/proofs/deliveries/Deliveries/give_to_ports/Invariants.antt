use Rattle.std.proofs.Common.{◌≡◌}
use Rattle.share_doors.specs.Deliveries.{PortIsGiven}
use Rattle.share_doors.proofs.DeliveryLemmas.{GivenBelow}
use Rattle.share_doors.proofs.deliveries.Deliveries.give_to_ports.Given as goal

abbrev pub invariant-keys : goal.invariant-keys
invariant-keys l = (l.self.given ≡ l.initial.self.given) × GivenBelow PortIsGiven l.key l.initial.ports l.ports
