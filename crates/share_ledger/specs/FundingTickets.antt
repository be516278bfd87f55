-- Funding tickets: the tickets that fund one holder, each with the place of its denomination.
use Rattle.std.specs.Prelude.{◌≡◌, ◌≤◌, ◌<◌, ℕ, ◌+◌, ◌*◌, ◌/◌, ◌^◌, ◌%◌, Bool, true, false, ◌&&◌, min, List, [], length}
use Rattle.std.specs.Prelude.{sum_by, nat_eq, nat_lt, slice_index_or, if◌then◌else◌}
use Rattle.std.specs.Int.{bit_at}
use Rattle.share_model.specs.funding.Graph.{Graph}
use Rattle.share_model.specs.lists.Each.{Each}
use Rattle.share_ledger.specs.declared.routes.Route.{Route}
use Rattle.share_ledger.specs.declared.funding_tickets.FundingTicket.{FundingTicket}
use Rattle.share_ledger.specs.Routes.{weight_from, routes_of}

-- whether two funding tickets have the same denomination and amount
abbrev pub is_like : FundingTicket → FundingTicket → Bool
is_like s o = nat_eq s.from o.from && nat_eq s.amount o.amount

-- the bit of the place that a funding ticket comes from is one of these
abbrev pub ComesFrom : ℕ → FundingTicket → Type 0
ComesFrom bits s = bit_at bits (s.from % 64) ≡ 1

pub record IsFundingTicketWithin (s : FundingTicket) : Type 0 where
  pub from_place : s.from < 65
  pub small : s.amount ≤ 2 ^ 20

-- the funding tickets of the holder at a place
abbrev pub funding_tickets_at : List (List FundingTicket) → ℕ → List FundingTicket
funding_tickets_at ss p = slice_index_or ss p []

-- the amounts of the funding tickets from a place
abbrev pub amount_from : List FundingTicket → ℕ → ℕ
amount_from ss p = sum_by (λ (s : FundingTicket). if nat_eq p s.from then s.amount else 0) ss

-- the worth of a funding ticket: its amount from the place of `base`, otherwise its share of the value of its place
abbrev pub funding_ticket_worth : (ℕ → ℕ) → (ℕ → ℕ) → FundingTicket → ℕ
funding_ticket_worth value whole s = if nat_eq s.from 0 then s.amount else value s.from * s.amount / whole s.from

-- the funding ticket of a route
abbrev pub funding_ticket_of : Route → FundingTicket
funding_ticket_of r = record { from = r.from; amount = r.amount }

-- The funding tickets of each place are those of the routes that lead there, in any order: any sum over them is the
-- same.
pub record AreTicketed (rs : List Route) (ss : List (List FundingTicket)) : Type 0 where
  pub ticketed : (F : FundingTicket → ℕ) (p : ℕ) → p < 65
      → sum_by F (funding_tickets_at ss p)
      ≡ sum_by (λ (r : Route). if nat_eq p r.to then F (funding_ticket_of r) else 0) rs
  pub within : (p : ℕ) → p < 65 → Each IsFundingTicketWithin (funding_tickets_at ss p)
  pub places : length ss ≡ 65

-- the weight of each place is the sum of the amounts of the routes from it to what is awake or active
abbrev pub AreCounted : List Route → List Route → (ℕ → Bool) → (ℕ → Bool) → (ℕ → ℕ) → Type 0
AreCounted backs funds awake active whole = (p : ℕ) → p < 65
    → whole p ≡ weight_from backs awake p + weight_from funds active p

-- a currency is awake if and only if its weight is not zero
abbrev pub AreAwake : (ℕ → Bool) → (ℕ → ℕ) → Type 0
AreAwake awake whole = (p : ℕ) → 0 < p → p < 65 → awake p ≡ nat_lt 0 (whole p)

-- the worth of the funding tickets of a place, if it is awake
abbrev pub worth_at : List (List FundingTicket) → (ℕ → Bool) → (ℕ → ℕ) → (ℕ → ℕ) → ℕ → ℕ
worth_at ss awake value whole p = if awake p then sum_by (funding_ticket_worth value whole) (funding_tickets_at ss p)
    else 0

-- the value of each currency is what its funding tickets are worth
abbrev pub AreValued : List (List FundingTicket) → (ℕ → Bool) → (ℕ → ℕ) → (ℕ → ℕ) → Type 0
AreValued ss awake value whole = (p : ℕ) → 0 < p → p < 65 → value p ≡ worth_at ss awake value whole p

-- the tickets of each flow are what its funding tickets are worth, at most 2^20
abbrev pub AreShared : List (List FundingTicket) → (ℕ → Bool) → (ℕ → ℕ) → (ℕ → ℕ) → (ℕ → ℕ) → Type 0
AreShared ss active value whole share = (p : ℕ) → p < 64 → share p ≡ min (worth_at ss active value whole p) (2 ^ 20)

-- values are small enough to be multiplied
abbrev pub AreSmall : (ℕ → ℕ) → Type 0
AreSmall value = (p : ℕ) → p < 65 → value p ≤ 9 * 2 ^ 30

-- there are such values, and they are small
abbrev pub HaveValues : List (List FundingTicket) → (ℕ → Bool) → (ℕ → ℕ) → Type 0
HaveValues ss awake whole = (value : ℕ → ℕ) × (AreValued ss awake value whole × AreSmall value)

-- the routes of the tickets of a graph that back currencies, and of those that fund flows
abbrev pub backs_of : Graph → List Route
backs_of g = routes_of g true g.tickets

abbrev pub funds_of : Graph → List Route
funds_of g = routes_of g false g.tickets
