use Rattle.std.proofs.Common.{take}
use Rattle.share_model.specs.lists.Each.{Each}
use Rattle.share_locked.specs.Receipts.{Agrees}
use Rattle.share_locked.proofs.locked.settling.all_agree.Given as goal

abbrev pub invariant-loop-clerk : goal.invariant-loop-clerk
invariant-loop-clerk g l = Each (Agrees l.entries) (take l.clerk-index l.clerks)
