use Rattle.std.proofs.Common.{sym, subst, take, get_or}
use Rattle.std.proofs.lemmas.List.{take_more}
use Rattle.share_model.specs.lists.Each.{Each}
use Rattle.share_ledger.specs.declared.funding_tickets.FundingTicket.{FundingTicket}
use Rattle.share_ledger.specs.FundingTickets.{ComesFrom}
use Rattle.share_ledger.proofs.FundingSourceLemmas.{bits-more}
use Rattle.share_ledger.proofs.funding_tickets.sources_of.Goals as goal

pub loop-funding_ticket-preserved : goal.loop-funding_ticket-preserved
loop-funding_ticket-preserved c =
    let funding_tickets = c.args.funding_tickets.now in
    let i = c.loop-funding_ticket.funding_ticket-index in
    let none : FundingTicket = record { from = 0; amount = 0 } in
    subst (Each (ComesFrom _)) (sym (take_more funding_tickets i none c.loop-funding_ticket-test.true))
    (bits-more c.loop-funding_ticket.sources c.bit_of-sources.result (take i funding_tickets)
    (get_or funding_tickets i none) c.bit_of-sources.ensures
    c.loop-funding_ticket.invariant)
