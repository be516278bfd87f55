use Rattle.std.proofs.Common.{◌≡◌, ◌<◌, ◌^◌, ℕ, length, min}
use Rattle.share_ledger.specs.Arrays.{flags_of, numbers_of}
use Rattle.share_ledger.specs.FundingTickets.{worth_at}
use Rattle.share_ledger.proofs.valuation.reshare.Given as goal

abbrev pub invariant-loop-place : goal.invariant-loop-place
invariant-loop-place l = record {
  long : length l.tickets_of_all ≡ 64;
  shared : (k : ℕ) → k < l.place
      → numbers_of l.tickets_of_all k
      ≡ min (worth_at l.funding (flags_of l.active) (numbers_of l.values) (numbers_of l.weights) k) (2 ^ 20);
}
