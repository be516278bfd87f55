use Rattle.std.proofs.Common.{◌≡◌, ◌≤◌, ◌<◌, ℕ, false}
use Rattle.share_ledger.specs.Ranks.{AreOrdered}
use Rattle.share_ledger.specs.Arrays.{flags_of, numbers_of}
use Rattle.share_ledger.specs.FundingTickets.{AreSmall, worth_at}
use Rattle.share_ledger.specs.Stale.{HaveBits}
use Rattle.share_ledger.proofs.stale.revalue.Given as goal

abbrev pub invariant-loop-i : goal.invariant-loop-i
invariant-loop-i l = record {
  bits : HaveBits l.moved;
  small : AreSmall (numbers_of l.values);
  left : (o : AreOrdered l.backing (numbers_of l.order)) (k : ℕ) → k < 65 → l.i ≤ o.spot k
      → numbers_of l.values k ≡ numbers_of l.fn.values k;
  same : (o : AreOrdered l.backing (numbers_of l.order)) (k : ℕ) → 0 < k → k < 65 → o.spot k < l.i
      → flags_of l.moved.flags k ≡ false
      → (numbers_of l.values k ≡ numbers_of l.fn.values k) × (numbers_of l.weights k ≡ numbers_of l.seen k);
  valued : (o : AreOrdered l.backing (numbers_of l.order)) (k : ℕ) → 0 < k → k < 65 → o.spot k < l.i
      → numbers_of l.values k
      ≡ worth_at l.backing (flags_of l.awake) (numbers_of l.values) (numbers_of l.weights) k;
}
