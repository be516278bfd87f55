-- Ranks of the places of currencies, and the order in which the passes go through the places.
use Rattle.std.specs.Prelude.{◌≡◌, ◌≤◌, ◌<◌, ℕ, zero, suc, Bool, true, not, ◌&&◌, ◌||◌, List, nat_eq}
use Rattle.std.specs.Prelude.{length, nat_lt, sum_by, if◌then◌else◌}
use Rattle.std.specs.List.{list_any}
use Rattle.share_model.specs.funding.Graph.{Graph}
use Rattle.share_model.specs.lists.Each.{Each}
use Rattle.share_ledger.specs.declared.valuation.Valuation.{Valuation}
use Rattle.share_ledger.specs.declared.ranks.Edge.{Edge}
use Rattle.share_ledger.specs.declared.ranks.Ranking.{Ranking}
use Rattle.share_ledger.specs.declared.funding_tickets.FundingTicket.{FundingTicket}
use Rattle.share_ledger.specs.Arrays.{numbers_of}
use Rattle.share_ledger.specs.FundingTickets.{funding_tickets_at, AreTicketed, backs_of}

-- each currency besides `base` has a rank of 1 to 8, above those of the places that its funding tickets come from
pub record AreRanks (ss : List (List FundingTicket)) (rank : ℕ → ℕ) : Type 0 where
  pub low : (p : ℕ) → rank p ≤ 8
  pub high : (p : ℕ) → 0 < p → p < 65 → 1 ≤ rank p
  pub above : (p : ℕ) → 0 < p → p < 65 → Each (λ (s : FundingTicket). rank s.from < rank p) (funding_tickets_at ss p)

-- The order of the places: a permutation, that of `base` first, and lesser ranks before greater ones. `spot` says where
-- each place is in it.
pub record AreListed (rank order : ℕ → ℕ) : Type 0 where
  pub spot : ℕ → ℕ
  pub first : spot 0 ≡ 0
  pub there : (p : ℕ) → p < 65 → (spot p < 65) × (order (spot p) ≡ p)
  pub back : (i : ℕ) → i < 65 → (order i < 65) × (spot (order i) ≡ i)
  pub sorted : (a b : ℕ) → a < 65 → b < 65 → rank a < rank b → spot a < spot b

-- each funding ticket of a currency comes from a place before that of the currency in this order
pub record AreOrdered (ss : List (List FundingTicket)) (order : ℕ → ℕ) : Type 0 where
  pub spot : ℕ → ℕ
  pub first : spot 0 ≡ 0
  pub there : (p : ℕ) → p < 65 → (spot p < 65) × (order (spot p) ≡ p)
  pub back : (i : ℕ) → i < 65 → (order i < 65) × (spot (order i) ≡ i)
  pub before : (p : ℕ) → 0 < p → p < 65
      → Each (λ (s : FundingTicket). (s.from < 65) × (spot s.from < spot p)) (funding_tickets_at ss p)

-- Whether a chain of n steps ends at a place, if a ticket of the place `from` also funds `to`. The chain does not begin
-- at `base`. Each step goes from the place that a funding ticket comes from to that of its holder.
unfoldable pub is_tall : List (List FundingTicket) → ℕ → ℕ → ℕ → ℕ → Bool
is_tall ss from to zero p = not (nat_eq p 0)
is_tall ss from to (suc n) p =
    (nat_eq p to && is_tall ss from to n from)
    || list_any (λ (s : FundingTicket). is_tall ss from to n s.from) (funding_tickets_at ss p)

-- ranks are no greater than they must be: for each n below its rank a chain of n steps ends at a place
abbrev pub AreLongest : List (List FundingTicket) → ℕ → ℕ → (ℕ → ℕ) → Type 0
AreLongest ss from to rank = (p n : ℕ) → 0 < p → p < 65 → n < rank p → is_tall ss from to n p ≡ true

-- Some places have ranks and are listed, those of lesser ranks first; the others have no rank, which is marked by 9.
pub record AreGiven (ss : List (List FundingTicket)) (edge : Edge) (r : Ranking) : Type 0 where
  pub ranks_long : length r.ranks ≡ 65
  pub order_long : length r.order ≡ 65
  pub base_rank : numbers_of r.ranks 0 ≡ 0
  pub top : (p : ℕ) → numbers_of r.ranks p ≤ 9
  pub high : (p : ℕ) → 0 < p → p < 65 → 1 ≤ numbers_of r.ranks p
  pub above : (p : ℕ) → 0 < p → p < 65 → numbers_of r.ranks p < 9
      → Each (λ (s : FundingTicket). numbers_of r.ranks s.from < numbers_of r.ranks p) (funding_tickets_at ss p)
  pub more : 0 < edge.to → numbers_of r.ranks edge.to < 9 → numbers_of r.ranks edge.from < numbers_of r.ranks edge.to
  pub spot : ℕ → ℕ
  pub first : spot 0 ≡ 0
  pub there : (p : ℕ) → p < 65 → numbers_of r.ranks p < 9 → (spot p < r.count) × (numbers_of r.order (spot p) ≡ p)
  pub back : (i : ℕ) → i < r.count → (numbers_of r.order i < 65)
      × ((numbers_of r.ranks (numbers_of r.order i) < 9) × (spot (numbers_of r.order i) ≡ i))
  pub sorted : (a b : ℕ) → a < 65 → b < 65 → numbers_of r.ranks a < numbers_of r.ranks b → numbers_of r.ranks b < 9
      → spot a < spot b
  pub counted : r.count ≡ sum_by (λ (n : ℕ). if nat_lt n 9 then 1 else 0) r.ranks

-- Ranks are given from 1 on: all below `most` are given, and `most` itself to the places before `upto` that can have
-- it.
pub record AreRankedTo (ss : List (List FundingTicket)) (edge : Edge) (r : Ranking) (most upto : ℕ) : Type 0 where
  pub given : AreGiven ss edge r
  pub low : (p : ℕ) → p < 65 → numbers_of r.ranks p < 9 → numbers_of r.ranks p ≤ most
  pub longest : (p n : ℕ) → 0 < p → p < 65 → n < numbers_of r.ranks p → n ≤ most → (n ≡ most → p < upto)
      → is_tall ss edge.from edge.to n p ≡ true

-- there are ranks by which the place `from` is below `to`
abbrev pub IsRankedBelow : List (List FundingTicket) → ℕ → ℕ → Type 0
IsRankedBelow ss from to = (rank : ℕ → ℕ) × (AreRanks ss rank × (rank from < rank to))

-- the funding tickets are those of the currencies of a graph, and have these ranks, in this order
pub record AreBacking (g : Graph) (n : Valuation) : Type 0 where
  pub ticketed : AreTicketed (backs_of g) n.backing.items
  pub ranked : AreRanks n.backing.items (numbers_of n.ranks.value)
  pub listed : AreListed (numbers_of n.ranks.value) (numbers_of n.order.value)
