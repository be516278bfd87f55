use Rattle.std.proofs.Common.{◌≡◌, ◌<◌, ℕ, true, nat_lt}
use Rattle.share_ledger.specs.Arrays.{flags_of, numbers_of}
use Rattle.share_ledger.proofs.valuation.are_computed.Given as goal

abbrev pub invariant-loop-place : goal.invariant-loop-place
invariant-loop-place l = l.computed ≡ true
    → (p : ℕ) → 0 < p → p < l.place → flags_of l.awake p ≡ nat_lt 0 (numbers_of l.weights p)
