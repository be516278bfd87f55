use Rattle.std.proofs.Common.{◌≡◌}
use Rattle.share_doors.specs.Outgoing.{GoesOn}
use Rattle.share_doors.proofs.sender.Sender.go_on.Given as goal

abbrev pub invariant-writes : goal.invariant-writes
invariant-writes l = (l.self.given ≡ l.initial.self.given) × GoesOn l.initial.self.outgoing l.self.outgoing
