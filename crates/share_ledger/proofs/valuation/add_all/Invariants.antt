use Rattle.std.proofs.Common.{◌≡◌, ◌<◌, ◌+◌, ℕ, take, length, slice_index_or}
use Rattle.share_ledger.specs.Arrays.{numbers_of}
use Rattle.share_ledger.specs.FundingTickets.{amount_from}
use Rattle.share_ledger.proofs.valuation.add_all.Given as goal

abbrev pub invariant-loop-funding_ticket : goal.invariant-loop-funding_ticket
invariant-loop-funding_ticket l = record {
  places : length l.weights ≡ 65;
  raised : (p : ℕ) → p < 65
      → slice_index_or l.weights p 0 ≡ numbers_of l.fn.weights p
      + amount_from (take l.funding_ticket-index l.funding_tickets) p;
}
