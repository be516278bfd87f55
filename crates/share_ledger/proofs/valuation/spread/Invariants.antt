use Rattle.std.proofs.Common.{◌≡◌, ◌<◌, ◌-◌, ℕ, nat_lt}
use Rattle.share_ledger.specs.Ranks.{AreOrdered}
use Rattle.share_ledger.specs.Arrays.{flags_of, numbers_of}
use Rattle.share_ledger.specs.FundingTickets.{AreCounted, backs_of, funds_of}
use Rattle.share_ledger.proofs.valuation.spread.Given as goal

abbrev pub invariant-loop-i : goal.invariant-loop-i
invariant-loop-i l = record {
  counted : AreCounted (backs_of l.tables) (funds_of l.tables) (flags_of l.awake) (flags_of l.active)
      (numbers_of l.weights);
  computed : (o : AreOrdered l.backing (numbers_of l.order)) (k : ℕ) → 0 < k → k < 65 → 64 - l.i < o.spot k
      → flags_of l.awake k ≡ nat_lt 0 (numbers_of l.weights k);
}
