use Rattle.std.proofs.Common.{◌≡◌, ◌<◌, ℕ, true}
use Rattle.share_ledger.specs.Arrays.{numbers_of}
use Rattle.share_ledger.proofs.valuation.are_same.Given as goal

abbrev pub invariant-loop-place : goal.invariant-loop-place
invariant-loop-place l = l.same ≡ true
    → (p : ℕ) → 0 < p → p < l.place → numbers_of l.weights p ≡ numbers_of l.seen p
