use Rattle.std.proofs.Common.{◌≡◌, false, take}
use Rattle.std.specs.List.{list_any}
use Rattle.share_ledger.specs.declared.funding_tickets.FundingTicket.{FundingTicket}
use Rattle.share_ledger.specs.Arrays.{flags_of}
use Rattle.share_ledger.proofs.funding_tickets.come_from.Given as goal

abbrev pub invariant-loop-funding_ticket : goal.invariant-loop-funding_ticket
invariant-loop-funding_ticket l = list_any (λ (s : FundingTicket). flags_of l.flags s.from)
    (take l.funding_ticket-index l.funding_tickets) ≡ false
