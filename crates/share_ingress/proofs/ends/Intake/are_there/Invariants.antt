use Rattle.std.proofs.Common.{◌≡◌, ℕ, true}
use Rattle.share_model.specs.ingress.Queue.{IsWorker}
use Rattle.share_ingress.specs.Gathers.{has_end}
use Rattle.share_ingress.proofs.ends.Intake.are_there.Given as goal

abbrev pub invariant-loop-worker : goal.invariant-loop-worker
invariant-loop-worker l = (w : ℕ) → IsWorker l.worker w → has_end w l.ends ≡ true
