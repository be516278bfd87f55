use Rattle.std.proofs.Common.{◌≡◌, ◌≤◌, ◌+◌, ◌*◌, ◌^◌, ℕ, arith}
use Rattle.share_ledger.proofs.FundingFillLemmas.{weight_from-none}
use Rattle.share_ledger.proofs.activity.rouse.Goals as goal
use Rattle.std.proofs.lemmas.Bool.Decides.{nat_tests}

nothing : (n a b : ℕ) → n ≡ 0 → a ≡ 0 → b ≡ 0 → n ≡ a + b
nothing n a b p q r = omega arith

pub wake_all-requires-clause-counted : goal.wake_all-requires-clause-counted
wake_all-requires-clause-counted c = grind (arith, nat_tests, nothing, weight_from-none)

none_small : (n : ℕ) → n ≡ 0 → n ≤ 9 * 2 ^ 30
none_small n e = omega arith

pub returns-clause-small : goal.returns-clause-small
returns-clause-small c = λ p lt. none_small _ (c.empty_all.ensures.values p)
