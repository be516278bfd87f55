use Rattle.share_doors.specs.Takes.{HoldsMore}
use Rattle.share_doors.proofs.sender.Sender.find_record.Given as goal

abbrev pub invariant-pieces : goal.invariant-pieces
invariant-pieces l = HoldsMore l.initial.self.records l.self.records
