use Rattle.std.proofs.Common.{take}
use Rattle.share_model.specs.lists.Each.{Each}
use Rattle.share_ingress.specs.Gathers.{IsTaken}
use Rattle.share_ingress.proofs.ends.Intake.are_taken.Given as goal

abbrev pub invariant-loop-end : goal.invariant-loop-end
invariant-loop-end l = Each (IsTaken l.self.popped) (take l.end-index l.ends)
