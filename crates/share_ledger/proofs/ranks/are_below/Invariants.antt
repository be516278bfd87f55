use Rattle.std.proofs.Common.{◌≡◌, true, take, nat_lt}
use Rattle.std.specs.List.{list_all}
use Rattle.share_ledger.specs.declared.funding_tickets.FundingTicket.{FundingTicket}
use Rattle.share_ledger.specs.Arrays.{numbers_of}
use Rattle.share_ledger.proofs.ranks.are_below.Given as goal

abbrev pub invariant-loop-funding_ticket : goal.invariant-loop-funding_ticket
invariant-loop-funding_ticket l =
    list_all (λ (s : FundingTicket). nat_lt (numbers_of l.ranks s.from) l.rank)
    (take l.funding_ticket-index l.funding_tickets) ≡ true
