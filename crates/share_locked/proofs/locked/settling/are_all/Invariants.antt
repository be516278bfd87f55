use Rattle.std.proofs.Common.{◌≡◌, ◌+◌, take}
use Rattle.share_locked.specs.Receipts.{receipts_in}
use Rattle.share_locked.proofs.locked.settling.are_all.Given as goal

abbrev pub invariant-loop-clerk : goal.invariant-loop-clerk
invariant-loop-clerk g l = receipts_in (take l.clerk-index l.clerks) + l.left ≡ l.commands
