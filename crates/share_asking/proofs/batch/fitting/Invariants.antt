use Rattle.std.proofs.Common.{◌≡◌, ◌+◌, length, sum_by, take}
use Rattle.share_asking.proofs.batch.fitting.Given as goal

abbrev pub invariant-loop-index : goal.invariant-loop-index
invariant-loop-index l = l.room + sum_by (λ line. length line.now + 1) (take l.index l.lines) ≡ 16384
