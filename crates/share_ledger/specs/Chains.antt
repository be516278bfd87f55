-- Chains of funding tickets.
use Rattle.std.specs.Prelude.{◌≡◌, ◌<◌, ℕ, Bool, false, ◌||◌, List, nat_eq}
use Rattle.std.specs.List.{list_any}
use Rattle.share_ledger.specs.declared.funding_tickets.FundingTicket.{FundingTicket}
use Rattle.share_ledger.specs.FundingTickets.{funding_tickets_at}

-- the flagged places are `first`, if it is not `base`, and those with a funding ticket from a flagged place
pub record AreBacked (ss : List (List FundingTicket)) (first : ℕ) (flag : ℕ → Bool) : Type 0 where
  pub base : flag 0 ≡ false
  pub step : (p : ℕ) → 0 < p → p < 65
      → flag p ≡ (nat_eq p first || list_any (λ (s : FundingTicket). flag s.from) (funding_tickets_at ss p))
