use Rattle.std.proofs.Common.{refl, ◌∙◌, arith}
use Rattle.share_doors.specs.Deliveries.{PortIsGiven}
use Rattle.share_doors.proofs.DeliveryLemmas.{given_all, given_at, given_none}
use Rattle.share_doors.proofs.deliveries.Deliveries.give_to_ports.Goals as goal

pub keys-init : goal.keys-init
keys-init c = (refl, given_none PortIsGiven _ _ refl)

pub keys-preserved : goal.keys-preserved
keys-preserved c = (
  c.give_to_port.ensures.same ∙ c.keys.invariant.0,
  given_at PortIsGiven _ _ _ _ c.keys.invariant.1 c.give_to_port.ensures.one.here c.give_to_port.ensures.one.others,
)

pub returns-clause-each : goal.returns-clause-each
returns-clause-each c =
    given_all PortIsGiven refl c.keys.key c.args.ports.now c.keys.ports
    (omega (arith, c.capacity-key-end.ensures.slots))
    c.keys.invariant.1
