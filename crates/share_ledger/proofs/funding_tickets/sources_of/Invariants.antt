use Rattle.std.proofs.Common.{take}
use Rattle.share_model.specs.lists.Each.{Each}
use Rattle.share_ledger.specs.FundingTickets.{ComesFrom}
use Rattle.share_ledger.proofs.funding_tickets.sources_of.Given as goal

abbrev pub invariant-loop-funding_ticket : goal.invariant-loop-funding_ticket
invariant-loop-funding_ticket l = Each (ComesFrom l.sources) (take l.funding_ticket-index l.funding_tickets)
