use Rattle.std.proofs.Common.{◌≡◌, ◌+◌, length}
use Rattle.share_locked.proofs.ReceiptLemmas.{AgreesSoFar}
use Rattle.share_locked.proofs.locked.settling.agrees.Given as goal

abbrev pub invariant-loop-entry : goal.invariant-loop-entry
invariant-loop-entry g l =
    (l.number + length l.rest ≡ length l.entries)
    × AgreesSoFar l.clerk.receipts l.entries l.clerk.number l.number l.left l.rest

abbrev pub decreases-loop-entry : goal.decreases-loop-entry
decreases-loop-entry g l = length l.rest
