-- Funding tickets that are before a place.
use Rattle.std.specs.Prelude.{◌≡◌, ◌≤◌, ◌<◌, ℕ, Bool, List, length, nat_lt, true, false}
use Rattle.std.specs.List.{list_all}
use Rattle.share_ledger.specs.declared.funding_tickets.FundingTicket.{FundingTicket}
use Rattle.share_ledger.specs.FundingTickets.{funding_tickets_at}

-- no currency from the place on has a funding ticket, and no funding ticket comes from there
pub record AreBefore (backing funding : List (List FundingTicket)) (place : ℕ) : Type 0 where
  pub empty : (p : ℕ) → place ≤ p → p < 65 → length (funding_tickets_at backing p) ≡ 0
  pub backed : (p : ℕ) → p < 65 → list_all (λ (s : FundingTicket). nat_lt s.from place) (funding_tickets_at backing p)
      ≡ true
  pub before : (p : ℕ) → p < 65 → list_all (λ (s : FundingTicket). nat_lt s.from place) (funding_tickets_at funding p)
      ≡ true

-- no flow from the place on is active or has a funding ticket
abbrev pub AreIdle : List (List FundingTicket) → (ℕ → Bool) → ℕ → Type 0
AreIdle funding active place =
    (p : ℕ) → place ≤ p → p < 65 → (active p ≡ false) × (length (funding_tickets_at funding p) ≡ 0)
