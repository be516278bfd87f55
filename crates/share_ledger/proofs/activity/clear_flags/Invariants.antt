use Rattle.std.proofs.Common.{◌≡◌, ◌<◌, ℕ, false, length}
use Rattle.share_ledger.specs.Arrays.{flags_of}
use Rattle.share_ledger.proofs.activity.clear_flags.Given as goal

abbrev pub invariant-loop-place : goal.invariant-loop-place
invariant-loop-place l = record {
  places : length l.flags ≡ 65;
  lowered : (k : ℕ) → k < l.place → flags_of l.flags k ≡ false;
}
