use Rattle.std.proofs.Common.{◌≡◌, ◌≤◌, ◌<◌, ℕ, length, nat_lt, true}
use Rattle.std.specs.List.{list_all}
use Rattle.share_ledger.specs.declared.funding_tickets.FundingTicket.{FundingTicket}
use Rattle.share_ledger.specs.FundingTickets.{funding_tickets_at}
use Rattle.share_ledger.proofs.bounds.are_before.Given as goal

abbrev pub invariant-loop-holder : goal.invariant-loop-holder
invariant-loop-holder l = record {
  empty : (p : ℕ) → l.place ≤ p → p < l.holder → length (funding_tickets_at l.backing p) ≡ 0;
  backed : (p : ℕ) → p < l.holder
      → list_all (λ (s : FundingTicket). nat_lt s.from l.place) (funding_tickets_at l.backing p) ≡ true;
  before : (p : ℕ) → p < l.holder
      → list_all (λ (s : FundingTicket). nat_lt s.from l.place) (funding_tickets_at l.funding p) ≡ true;
}
