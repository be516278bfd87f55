-- Ranks of the places, and what they say of chains.
use Rattle.std.proofs.Common.{◌≡◌, ◌<◌, ◌≤◌, ◌+◌, ℕ, zero, suc, Bool, true, false, ◌&&◌, ◌||◌, List, [], ◌∷◌}
use Rattle.std.proofs.Common.{find, bytes_eq, nat_eq, nat_lt, Some, refl, sym, ap}
use Rattle.std.proofs.Common.{subst, ◌∙◌, arith}
use Rattle.std.proofs.lemmas.Bool.Decides.{nat_tests}
use Rattle.std.proofs.lemmas.Option.{same_Some}
use Rattle.std.proofs.lemmas.Bool.{lt-ltb}
use Rattle.share_model.specs.declared.funding.Holder.{Holder}
use Rattle.share_model.specs.declared.funding.Holder.TheVariants.{Nobody, Currency, Flow}
use Rattle.share_model.specs.declared.funding.Ticket.{Ticket}
use Rattle.share_model.specs.funding.Graph.{NameBytes, base, Graph, denominated_in, leads_on, chain}
use Rattle.share_model.specs.funding.Graph.{chain_within, runs, is_deep}
use Rattle.share_model.specs.funding.Changes.{is_numbered, with_its_holder, ticket_of, with_holder}
use Rattle.share_model.specs.funding.WellFormed.{names_of, IsWellFormed}
use Rattle.share_model.proofs.lemmas.funding.SettledGraphLemmas.{none_any}
use Rattle.share_model.specs.lists.Change.{change_first}
use Rattle.share_model.proofs.lemmas.lists.CountLemmas.{any-filter}
use Rattle.share_model.specs.lists.Each.{Each}
use Rattle.share_model.proofs.lemmas.lists.FirstItemLemmas.{each_map, each-change_first}
use Rattle.share_model.proofs.lemmas.lists.SumLemmas.{same_name, name_sym}
use Rattle.share_ledger.specs.declared.funding_tickets.FundingTicket.{FundingTicket}
use Rattle.share_ledger.specs.Ranks.{AreRanks}
use Rattle.share_ledger.specs.Places.{place}
use Rattle.share_ledger.specs.FundingTickets.{funding_tickets_at, AreTicketed, backs_of}
use Rattle.share_ledger.proofs.PlaceLemmas.{past-base, IsPlaced, placed}
use Rattle.share_ledger.proofs.RouteListLemmas.{route-within}
use Rattle.share_ledger.proofs.RouteWorthLemmas.{below}
use Rattle.share_ledger.proofs.RemovedCurrencyLemmas.{ticket-part, funding_tickets-tell, route-tells}

-- The ranks of the names of a graph rise along its chains
abbrev RankRises : Graph → (ℕ → ℕ) → ℕ → Holder → Type 0
RankRises g rank n Nobody = Unit {0}
RankRises g rank n (Flow f) = Unit {0}
RankRises g rank n (Currency c) = n < rank (place (names_of g) c)

abbrev rank_of : Graph → (ℕ → ℕ) → NameBytes → ℕ
rank_of g rank a = rank (place (names_of g) a)

abbrev RisesBy : Graph → (ℕ → ℕ) → Ticket → Type 0
RisesBy g rank t = RankRises g rank (rank_of g rank t.denomination) t.holder

module _ (g : Graph) (rank : ℕ → ℕ) where
  -- each step of a chain goes to a higher rank
  chain-none : (ts : List Ticket) → Each (RisesBy g rank) ts → (n : ℕ) (a b : NameBytes)
      → rank_of g rank b < rank_of g rank a + n → chain ts n a b ≡ false
  unfolding chain denominated_in
  chain-none ts each zero a b less = by (bytes_eq a b) refl
    where
      by : (x : Bool) → bytes_eq a b ≡ x → bytes_eq a b ≡ false
      by true e = let here = ap (rank_of g rank) (same_name a b e) in absurd (omega arith)
      by false e = e
  chain-none ts each (suc n) a b less =
      any-filter (λ (t : Ticket). bytes_eq a t.denomination)
      (λ (t : Ticket). leads_on (λ c. chain ts n c b) t.holder) ts
      ∙ none_any (λ (t : Ticket). bytes_eq a t.denomination && leads_on (λ c. chain ts n c b) t.holder) ts
      (each_map (RisesBy g rank) _
      (λ t up. by (λ c. chain-none ts each n c b) (bytes_eq a t.denomination) t refl up) ts each)
    where
      on : ((c : NameBytes) → rank_of g rank b < rank_of g rank c + n → chain ts n c b ≡ false) → (h : Holder)
          → RankRises g rank (rank_of g rank a) h → leads_on (λ c. chain ts n c b) h ≡ false
      on rest Nobody up = refl
      on rest (Flow f) up = refl
      on rest (Currency c) up = rest c (omega arith)

      by : ((c : NameBytes) → rank_of g rank b < rank_of g rank c + n → chain ts n c b ≡ false)
          → (x : Bool) (t : Ticket)
          → bytes_eq a t.denomination ≡ x → RisesBy g rank t
          → (bytes_eq a t.denomination && leads_on (λ c. chain ts n c b) t.holder) ≡ false
      by rest true t e up =
          ap (λ x. x && leads_on (λ c. chain ts n c b) t.holder) e
          ∙ on rest t.holder
          (subst (λ d. RankRises g rank (rank_of g rank d) t.holder) (sym (same_name a t.denomination e)) up)
      by rest false t e up = ap (λ x. x && leads_on (λ c. chain ts n c b) t.holder) e

  pub within-none : (ts : List Ticket) → Each (RisesBy g rank) ts → (n : ℕ) (a b : NameBytes)
      → rank_of g rank b < rank_of g rank a → chain_within ts n a b ≡ false
  unfolding chain_within
  within-none ts each zero a b less = chain-none ts each 0 a b (omega arith)
  within-none ts each (suc n) a b less = grind (arith, nat_tests, chain-none, within-none ts each n a b less)

  -- and ranks are at most eight
  runs-none : (ts : List Ticket) → Each (RisesBy g rank) ts → ((p : ℕ) → rank p ≤ 8) → (n : ℕ) (a : NameBytes)
      → 8 < rank_of g rank a + n → runs ts n a ≡ false
  unfolding runs denominated_in
  runs-none ts each low zero a far = let here = low (place (names_of g) a) in absurd (omega arith)
  runs-none ts each low (suc n) a far =
      any-filter (λ (t : Ticket). bytes_eq a t.denomination) (λ (t : Ticket). leads_on (runs ts n) t.holder) ts
      ∙ none_any (λ (t : Ticket). bytes_eq a t.denomination && leads_on (runs ts n) t.holder) ts
      (each_map (RisesBy g rank) _
      (λ t up. by (λ c. runs-none ts each low n c) (bytes_eq a t.denomination) t refl up) ts each)
    where
      on : ((c : NameBytes) → 8 < rank_of g rank c + n → runs ts n c ≡ false) → (h : Holder)
          → RankRises g rank (rank_of g rank a) h → leads_on (runs ts n) h ≡ false
      on rest Nobody up = refl
      on rest (Flow f) up = refl
      on rest (Currency c) up = rest c (omega arith)

      by : ((c : NameBytes) → 8 < rank_of g rank c + n → runs ts n c ≡ false) → (x : Bool) (t : Ticket)
          → bytes_eq a t.denomination ≡ x → RisesBy g rank t
          → (bytes_eq a t.denomination && leads_on (runs ts n) t.holder) ≡ false
      by rest true t e up =
          ap (λ x. x && leads_on (runs ts n) t.holder) e
          ∙ on rest t.holder
          (subst (λ d. RankRises g rank (rank_of g rank d) t.holder) (sym (same_name a t.denomination e)) up)
      by rest false t e up = ap (λ x. x && leads_on (runs ts n) t.holder) e

  pub deep-none : (ts : List Ticket) → Each (RisesBy g rank) ts → ((p : ℕ) → rank p ≤ 8)
      → Each (λ (t : Ticket). bytes_eq t.denomination base ≡ false → 1 ≤ rank_of g rank t.denomination) ts
      → is_deep ts ≡ false
  unfolding is_deep
  deep-none ts each low high = grind (arith, nat_tests, none_any, each_map, runs-none)

  -- the first ticket of a number gets a holder at a higher rank
  rises-written : (n : ℕ) (c : NameBytes) (ts : List Ticket) (t : Ticket) → find (is_numbered n) ts ≡ Some t
      → rank_of g rank t.denomination < rank_of g rank c → Each (RisesBy g rank) ts
      → Each (RisesBy g rank) (with_holder n (Currency c) ts)
  unfolding change_first
  rises-written n c [] t found less each = tt
  rises-written n c (x ∷ ts) t found less each = grind (arith, nat_tests, same_Some, rises-written n c ts t)

  high-written : (n : ℕ) (c : NameBytes) (P : NameBytes → Type 0) (ts : List Ticket)
      → Each (λ (t : Ticket). P t.denomination) ts
      → Each (λ (t : Ticket). P t.denomination) (with_holder n (Currency c) ts)
  high-written n c P ts each =
      each-change_first (λ (t : Ticket). P t.denomination) (λ (t : Ticket). P t.denomination) (is_numbered n)
      (with_its_holder (Currency c)) (λ t e. e) (λ t e. e) ts each

-- The funding tickets of a graph that have ranks
module _ (g : Graph) (ok : IsWellFormed g) (ss : List (List FundingTicket)) (ticketed : AreTicketed (backs_of g) ss)
    (rank : ℕ → ℕ)
    (ranks : AreRanks ss rank) where
  -- a funding ticket is below the place of its holder, unless that is `base`
  abbrev is_low : ℕ → FundingTicket → Bool
  is_low p s = nat_eq p 0 || nat_lt (rank s.from) (rank p)

  low-funding_tickets : (p : ℕ) → p < 65 → Each (λ s. is_low p s ≡ true) (funding_tickets_at ss p)
  low-funding_tickets p lt = grind (arith, nat_tests, each_map, lt-ltb)

  rises-at : (t : Ticket) → IsPlaced g t
      → ((p : ℕ) → p < 65 → ticket-part g true ss ticketed is_low low-funding_tickets p t ≡ 0)
      → RisesBy g rank t
  rises-at t at none = grind (arith, nat_tests, route-tells, low-funding_tickets, route-within, past-base, name_sym)

  rises-each : (ts : List Ticket) → Each (IsPlaced g) ts
      → Each (λ t. (p : ℕ) → p < 65 → ticket-part g true ss ticketed is_low low-funding_tickets p t ≡ 0) ts
      → Each (RisesBy g rank) ts
  rises-each [] known none = tt
  rises-each (t ∷ ts) known none = (rises-at t known.0 none.0, rises-each ts known.1 none.1)

  -- a ticket that would lead to a higher rank makes no chain too long, and none that leads back
  pub ranks-stand : (n : ℕ) (c : NameBytes) (t : Ticket) → ticket_of g n ≡ Some t
      → rank (place (names_of g) t.denomination) < rank (place (names_of g) c)
      → (chain_within g.tickets 8 c t.denomination ≡ false) × (is_deep (with_holder n (Currency c) g.tickets) ≡ false)
  ranks-stand n c t found less =
      let rises =
      rises-each g.tickets (placed g ok) (funding_tickets-tell g true ss ticketed is_low low-funding_tickets) in
      let high =
      each_map (IsPlaced g) (λ (t : Ticket). bytes_eq t.denomination base ≡ false → 1 ≤ rank_of g rank t.denomination)
      (λ t known apart. ranks.high (place (names_of g) t.denomination) (past-base g t.denomination apart)
      (below g ok t.denomination known.denomination_known)) g.tickets (placed g ok) in (
        within-none g rank g.tickets rises 8 c t.denomination less,
        deep-none g rank (with_holder n (Currency c) g.tickets)
            (rises-written g rank n c g.tickets t found less rises) ranks.low
            (high-written g rank n c (λ d. bytes_eq d base ≡ false → 1 ≤ rank_of g rank d) g.tickets high),
      )
