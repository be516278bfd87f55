use Rattle.std.proofs.Common.{◌≡◌, ◌≤◌, ◌*◌, ◌^◌, take, sum_by}
use Rattle.share_ledger.specs.Arrays.{numbers_of}
use Rattle.share_ledger.specs.FundingTickets.{funding_ticket_worth}
use Rattle.share_ledger.proofs.valuation.weigh.Given as goal

abbrev pub invariant-loop-funding_ticket : goal.invariant-loop-funding_ticket
invariant-loop-funding_ticket l = record {
  weighed : l.sum ≡ sum_by (funding_ticket_worth (numbers_of l.values) (numbers_of l.weights))
      (take l.funding_ticket-index l.funding_tickets);
  small : l.sum ≤ l.funding_ticket-index * (9 * 2 ^ 50);
}
