use Rattle.std.proofs.Common.{◌≡◌}
use Rattle.share_doors.specs.Deliveries.{SenderIsGiven}
use Rattle.share_doors.proofs.DeliveryLemmas.{GivenBelow}
use Rattle.share_doors.proofs.deliveries.Deliveries.give_to_senders.Given as goal

abbrev pub invariant-keys : goal.invariant-keys
invariant-keys l = (l.self.given ≡ l.initial.self.given) × GivenBelow SenderIsGiven l.key l.initial.senders l.senders
