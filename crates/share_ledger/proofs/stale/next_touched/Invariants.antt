use Rattle.std.proofs.Common.{◌≤◌, ◌-◌}
use Rattle.share_ledger.specs.Arrays.{flags_of}
use Rattle.share_ledger.specs.Stale.{AreUntouched}
use Rattle.share_ledger.proofs.stale.next_touched.Given as goal

abbrev pub invariant-loop-place : goal.invariant-loop-place
invariant-loop-place l = record {
  past : l.from ≤ l.place;
  untouched : AreUntouched l.funding (flags_of l.active) (flags_of l.moved.flags) l.changed l.from l.place;
}

abbrev pub decreases-loop-place : goal.decreases-loop-place
decreases-loop-place l = 64 - l.place
