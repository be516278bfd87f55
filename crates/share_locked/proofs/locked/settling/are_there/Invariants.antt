use Rattle.std.proofs.Common.{◌≡◌, ℕ, true}
use Rattle.share_model.specs.ingress.Queue.{IsWorker}
use Rattle.share_locked.specs.Receipts.{has_clerk}
use Rattle.share_locked.proofs.locked.settling.are_there.Given as goal

abbrev pub invariant-loop-made : goal.invariant-loop-made
invariant-loop-made g l = (n : ℕ) → IsWorker l.made n → has_clerk n l.clerks ≡ true
