use Rattle.std.proofs.Common.{◌≡◌, ◌<◌, ◌||◌, ℕ, false, length, nat_eq}
use Rattle.std.specs.List.{list_any}
use Rattle.share_ledger.specs.Arrays.{flags_of, numbers_of}
use Rattle.share_ledger.specs.Ranks.{AreOrdered}
use Rattle.share_ledger.specs.FundingTickets.{funding_tickets_at}
use Rattle.share_ledger.specs.declared.funding_tickets.FundingTicket.{FundingTicket}
use Rattle.share_ledger.proofs.chains.backed_by.Given as goal

abbrev pub invariant-loop-i : goal.invariant-loop-i
invariant-loop-i l = record {
  long : length l.flags ≡ 65;
  base : flags_of l.flags 0 ≡ false;
  step : (o : AreOrdered l.backing (numbers_of l.order)) (k : ℕ) → 0 < k → k < 65 → o.spot k < l.i
      → flags_of l.flags k
      ≡ (nat_eq k l.first || list_any (λ (s : FundingTicket). flags_of l.flags s.from)
      (funding_tickets_at l.backing k));
}
