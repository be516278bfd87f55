use Rattle.std.proofs.Common.{◌≡◌, ◌<◌, ℕ, [], length}
use Rattle.share_ledger.specs.FundingTickets.{funding_tickets_at}
use Rattle.share_ledger.proofs.activity.clear.Given as goal

abbrev pub invariant-loop-i : goal.invariant-loop-i
invariant-loop-i l = record {
  places : length l.holders.items ≡ length l.fn.holders.items;
  none : (p : ℕ) → p < l.i → funding_tickets_at l.holders.items p ≡ [];
}
