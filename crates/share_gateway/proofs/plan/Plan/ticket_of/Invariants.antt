use Rattle.std.proofs.Common.{◌≡◌, drop}
use Rattle.share_gateway.specs.Opening.{grantees}
use Rattle.share_gateway.specs.GrantTickets.{grant_ticket, ticket_among}
use Rattle.share_gateway.proofs.TicketLemmas.{grants_before}
use Rattle.share_gateway.proofs.plan.Plan.ticket_of.Given as goal

abbrev pub invariant-loop-index : goal.invariant-loop-index
invariant-loop-index l = record {
  ticket : grant_ticket l.self l.name l.number ≡ ticket_among l.before l.name l.number (drop l.index (grantees l.self));
  before_is : l.before ≡ grants_before l.self l.index;
}
