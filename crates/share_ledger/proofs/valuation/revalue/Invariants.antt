use Rattle.std.proofs.Common.{◌≡◌, ◌<◌, ℕ, length}
use Rattle.share_ledger.specs.Ranks.{AreOrdered}
use Rattle.share_ledger.specs.Arrays.{flags_of, numbers_of}
use Rattle.share_ledger.specs.FundingTickets.{AreSmall, worth_at}
use Rattle.share_ledger.proofs.valuation.revalue.Given as goal

abbrev pub invariant-loop-i : goal.invariant-loop-i
invariant-loop-i l = record {
  long : length l.values ≡ 65;
  small : AreSmall (numbers_of l.values);
  valued : (o : AreOrdered l.backing (numbers_of l.order)) (k : ℕ) → 0 < k → k < 65 → o.spot k < l.i
      → numbers_of l.values k
      ≡ worth_at l.backing (flags_of l.awake) (numbers_of l.values) (numbers_of l.weights) k;
}
