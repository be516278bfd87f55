use Rattle.std.proofs.Common.{◌≡◌, ◌<◌, ℕ, length}
use Rattle.share_ledger.specs.Arrays.{numbers_of}
use Rattle.share_ledger.proofs.activity.empty_all.Given as goal

abbrev pub invariant-loop-place : goal.invariant-loop-place
invariant-loop-place l = record {
  weights_long : length l.weights ≡ 65;
  values_long : length l.values ≡ 65;
  no_weights : (k : ℕ) → k < l.place → numbers_of l.weights k ≡ 0;
  no_values : (k : ℕ) → k < l.place → numbers_of l.values k ≡ 0;
}
