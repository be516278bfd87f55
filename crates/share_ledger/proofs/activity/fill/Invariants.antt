use Rattle.std.proofs.Common.{◌≡◌, ◌<◌, ℕ, nat_eq, take, sum_by, length, if◌then◌else◌}
use Rattle.share_model.specs.lists.Each.{Each}
use Rattle.share_ledger.specs.declared.routes.Route.{Route}
use Rattle.share_ledger.specs.declared.funding_tickets.FundingTicket.{FundingTicket}
use Rattle.share_ledger.specs.FundingTickets.{funding_tickets_at, funding_ticket_of, IsFundingTicketWithin}
use Rattle.share_ledger.proofs.activity.fill.Given as goal

abbrev pub invariant-loop-route : goal.invariant-loop-route
invariant-loop-route l = record {
  places : length l.holders.items ≡ 65;
  ticketed : (F : FundingTicket → ℕ) (p : ℕ) → p < 65
      → sum_by F (funding_tickets_at l.holders.items p)
      ≡ sum_by (λ (r : Route). if nat_eq p r.to then F (funding_ticket_of r) else 0) (take l.route-index l.routes);
  within : (p : ℕ) → p < 65 → Each IsFundingTicketWithin (funding_tickets_at l.holders.items p);
}
