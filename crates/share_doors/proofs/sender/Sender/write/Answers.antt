use Rattle.share_doors.proofs.OutgoingLemmas.{goes_all}
use Rattle.share_doors.proofs.sender.Sender.write.Goals as goal

pub returns-in-Ok-Over-clause-left : goal.returns-in-Ok-Over-clause-left
returns-in-Ok-Over-clause-left c = goes_all _ _ c.clear.ensures
