-- Chains of funding tickets, and chains of currencies.
use Rattle.std.proofs.Common.{◌≡◌, ◌≤◌, ◌<◌, ◌+◌, ◌∙◌, ◌&&◌, ◌||◌, ℕ, zero, suc, Bool, true, false, not, cond}
use Rattle.std.proofs.Common.{List, [], ◌∷◌, sum_by, bytes_eq, nat_eq, refl, sym, ap, subst, true≢false, arith}
use Rattle.std.specs.List.{list_any}
use Rattle.std.proofs.lemmas.Bool.{eq-eqb, eqb-true}
use Rattle.std.proofs.lemmas.Bool.Decides.{nat_tests}
use Rattle.std.proofs.lemmas.List.Sums.{sum_by-cons}
use Rattle.share_model.specs.declared.funding.Holder.{Holder}
use Rattle.share_model.specs.declared.funding.Holder.TheVariants.{Nobody, Currency, Flow}
use Rattle.share_model.specs.declared.funding.Ticket.{Ticket}
use Rattle.share_model.specs.funding.Graph.{NameBytes, base, Graph, denominated_in, leads_on, runs}
use Rattle.share_model.specs.funding.Graph.{is_deep}
use Rattle.share_model.proofs.lemmas.funding.SettledGraphLemmas.{runs-none}
use Rattle.share_model.specs.funding.WellFormed.{names_of, times, IsWellFormed}
use Rattle.share_model.proofs.lemmas.lists.CountLemmas.{any-filter}
use Rattle.share_model.specs.lists.Each.{Each}
use Rattle.share_model.proofs.lemmas.lists.SumLemmas.{sum_by-same, same_name, name_same, name_sym}
use Rattle.share_ledger.specs.declared.routes.Route.{Route}
use Rattle.share_ledger.specs.declared.funding_tickets.FundingTicket.{FundingTicket}
use Rattle.share_ledger.specs.Places.{place}
use Rattle.share_ledger.specs.Ranks.{is_tall}
use Rattle.share_ledger.specs.Routes.{is_kind, holder_place}
use Rattle.share_ledger.specs.FundingTickets.{funding_tickets_at, funding_ticket_of, AreTicketed, backs_of}
use Rattle.share_ledger.proofs.PlaceLemmas.{place-base, place-same, IsPlaced, placed}
use Rattle.share_ledger.proofs.RouteWorthLemmas.{sum-routes, below}

-- one that passes a test, and so stands for any other test that it passes
pub found : {X : Type 0} (P : X → Type 0) (test : X → Bool) (xs : List X) → Each P xs → list_any test xs ≡ true
    → (x : X) × (P x × ((test x ≡ true) × ((h : X → Bool) → h x ≡ true → list_any h xs ≡ true)))
found P test [] each e = absurd (true≢false (sym e))
found {X = X} P test (x ∷ xs) each e = by (test x) refl (λ r. found P test xs each.1 r) e
  where
    or_true : (b : Bool) → (b || true) ≡ true
    or_true true = refl
    or_true false = refl

    by : (b : Bool) → test x ≡ b
        → (list_any test xs ≡ true
        → (y : X) × (P y × ((test y ≡ true) × ((h : X → Bool) → h y ≡ true → list_any h xs ≡ true))))
        → (b || list_any test xs) ≡ true
        → (y : X) × (P y × ((test y ≡ true) × ((h : X → Bool) → h y ≡ true → (h x || list_any h xs) ≡ true)))
    by true is rest e = (x, (each.0, (is, λ h on. ap (λ b. b || list_any h xs) on)))
    by false is rest e =
        let one = rest e in
        (one.0, (one.1.0, (one.1.1.0, λ h on. ap (λ b. h x || b) (one.1.1.1 h on) ∙ or_true (h x))))

-- the number that pass, and whether one does
pub any-sum : {X : Type 0} (test : X → Bool) (xs : List X) → 1 ≤ sum_by (λ x. cond (test x) 1 0) xs
    → list_any test xs ≡ true
any-sum test [] some = absurd (omega arith)
any-sum test (x ∷ xs) some =
    by (test x) (λ r. any-sum test xs r)
    (let sum = sum_by-cons (λ x. cond (test x) 1 0) x xs in omega arith)
  where
    by : (b : Bool) → (1 ≤ sum_by (λ x. cond (test x) 1 0) xs → list_any test xs ≡ true)
        → 1 ≤ cond b 1 0 + sum_by (λ x. cond (test x) 1 0) xs → (b || list_any test xs) ≡ true
    by true rest some = refl
    by false rest some = rest (omega arith)

pub sum-any : {X : Type 0} (test : X → Bool) (xs : List X) → list_any test xs ≡ true
    → 1 ≤ sum_by (λ x. cond (test x) 1 0) xs
sum-any test [] e = absurd (true≢false (sym e))
sum-any test (x ∷ xs) e =
    let sum = sum_by-cons (λ x. cond (test x) 1 0) x xs in
    let here = by (test x) (λ r. sum-any test xs r) e in
    omega arith
  where
    by : (b : Bool) → (list_any test xs ≡ true → 1 ≤ sum_by (λ x. cond (test x) 1 0) xs)
        → (b || list_any test xs) ≡ true → 1 ≤ cond b 1 0 + sum_by (λ x. cond (test x) 1 0) xs
    by true rest e = omega arith
    by false rest e = let r = rest e in omega arith

-- The funding tickets of a graph are its tickets that back currencies
module _ (g : Graph) (ss : List (List FundingTicket)) (ticketed : AreTicketed (backs_of g) ss) where
  -- a ticket that backs the currency at a place, and whose denomination is at one that passes the test
  abbrev pub backs : (ℕ → Bool) → ℕ → Ticket → Bool
  backs test p t = leads_on (λ d. nat_eq p (place (names_of g) d)) t.holder && test (place (names_of g) t.denomination)

  counted-backs : (test : ℕ → Bool) (p : ℕ) → p < 65
      → sum_by (λ (s : FundingTicket). cond (test s.from) 1 0) (funding_tickets_at ss p)
      ≡ sum_by (λ (t : Ticket). cond (backs test p t) 1 0) g.tickets
  counted-backs test p lt =
      ticketed.ticketed (λ (s : FundingTicket). cond (test s.from) 1 0) p lt
      ∙ sum-routes g (λ (r : Route). cond (nat_eq p r.to) (cond (test (funding_ticket_of r).from) 1 0) 0) true
      ∙ sum_by-same (λ (t : Ticket). cond (is_kind true t.holder)
      (cond (nat_eq p (holder_place g t.holder)) (cond (test (place (names_of g) t.denomination)) 1 0) 0) 0)
      (λ (t : Ticket). cond (backs test p t) 1 0) g.tickets
      (λ t. by t.holder (test (place (names_of g) t.denomination)))
    where
      both : (a b : Bool) → ◌≡◌ {A = ℕ} (cond a (cond b 1 0) 0) (cond (a && b) 1 0)
      both true b = refl
      both false b = refl

      by : (h : Holder) (b : Bool)
          → ◌≡◌ {A = ℕ} (cond (is_kind true h) (cond (nat_eq p (holder_place g h)) (cond b 1 0) 0) 0)
          (cond (leads_on (λ d. nat_eq p (place (names_of g) d)) h && b) 1 0)
      by Nobody b = refl
      by (Flow f) b = refl
      by (Currency d) b = both (nat_eq p (place (names_of g) d)) b

  pub funding_ticket-ticket : (test : ℕ → Bool) (p : ℕ) → p < 65
      → list_any (λ (s : FundingTicket). test s.from) (funding_tickets_at ss p) ≡ true
      → list_any (backs test p) g.tickets ≡ true
  funding_ticket-ticket test p lt e =
      let some = sum-any (λ (s : FundingTicket). test s.from) (funding_tickets_at ss p) e in
      let same = counted-backs test p lt in
      any-sum (backs test p) g.tickets (omega arith)

  pub ticket-funding_ticket : (test : ℕ → Bool) (p : ℕ) → p < 65 → list_any (backs test p) g.tickets ≡ true
      → list_any (λ (s : FundingTicket). test s.from) (funding_tickets_at ss p) ≡ true
  ticket-funding_ticket test p lt e =
      let some = sum-any (backs test p) g.tickets e in
      let same = counted-backs test p lt in
      any-sum (λ (s : FundingTicket). test s.from) (funding_tickets_at ss p) (omega arith)

  -- the tickets that back a place
  pub record IsBacker (test : ℕ → Bool) (p : ℕ) (t : Ticket) : Type 0 where
    pub holder : NameBytes
    pub held : t.holder ≡ Currency holder
    pub at : p ≡ place (names_of g) holder
    pub passes : test (place (names_of g) t.denomination) ≡ true

  pub backer : (test : ℕ → Bool) (p : ℕ) (t : Ticket) → backs test p t ≡ true → IsBacker test p t
  backer test p t e = by t.holder refl e
    where
      split : (a b : Bool) → (a && b) ≡ true → (a ≡ true) × (b ≡ true)
      split true true e = (refl, refl)
      split true false e = absurd (true≢false (sym e))
      split false b e = absurd (true≢false (sym e))

      by : (h : Holder) → t.holder ≡ h
          → (leads_on (λ d. nat_eq p (place (names_of g) d)) h && test (place (names_of g) t.denomination)) ≡ true
          → IsBacker test p t
      by Nobody is e = absurd (true≢false (sym e))
      by (Flow f) is e = absurd (true≢false (sym e))
      by (Currency d) is e =
          let two = split (nat_eq p (place (names_of g) d)) (test (place (names_of g) t.denomination)) e in
          record { holder = d; held = is; at = eqb-true p (place (names_of g) d) two.0; passes = two.1 }

  -- Long chains of funding tickets are long chains of currencies, even if one more ticket backs
  module _ (ok : IsWellFormed g) (from to : ℕ) (ts : List Ticket) (known : Each (IsPlaced g) ts)
      (kept : (test : ℕ → Bool) (p : ℕ) → list_any (backs test p) g.tickets ≡ true
      → list_any (backs test p) ts ≡ true)
      (extra : (m p : ℕ) → (nat_eq p to && is_tall ss from to m from) ≡ true
      → list_any (backs (is_tall ss from to m) p) ts ≡ true) where
    last-step : (m p : ℕ) → p < 65 → is_tall ss from to (suc m) p ≡ true
        → list_any (backs (is_tall ss from to m) p) ts ≡ true
    unfolding is_tall
    last-step m p lt e = grind (arith, nat_tests, funding_ticket-ticket)

    itself : (c : NameBytes) → bytes_eq c c ≡ true
    itself c = name_same c c refl

    runs-on : (t : Ticket) (d : NameBytes) (k : ℕ) → t.holder ≡ Currency d
        → ((h : Ticket → Bool) → h t ≡ true → list_any h ts ≡ true) → runs ts k d ≡ true
        → runs ts (suc k) t.denomination ≡ true
    unfolding runs denominated_in
    runs-on t d k held there on = grind (arith, nat_tests, any-filter, itself)

    -- a chain that runs on from a currency besides `base`
    abbrev runs-from : ℕ → Bool
    runs-from n = list_any (λ (u : Ticket). not (bytes_eq u.denomination base) && runs ts n u.denomination) ts

    runs-begun : (k : ℕ) (a : NameBytes) → bytes_eq a base ≡ false → runs ts (suc k) a ≡ true → runs-from (suc k) ≡ true
    unfolding runs denominated_in
    runs-begun k a other on =
        let one =
        found (IsPlaced g) (λ (u : Ticket). bytes_eq a u.denomination && leads_on (runs ts k) u.holder) ts known
        (sym (any-filter (λ (u : Ticket). bytes_eq a u.denomination) (λ (u : Ticket). leads_on (runs ts k) u.holder) ts)
        ∙ on) in
        let same = same_name a one.0.denomination (left one.0 one.1.1.0) in
        one.1.1.1 (λ (u : Ticket). not (bytes_eq u.denomination base) && runs ts (suc k) u.denomination)
        (ap (λ d. not (bytes_eq d base) && runs ts (suc k) d) (sym same)
        ∙ ap (λ b. not b && runs ts (suc k) a) other ∙ on)
      where
        left : (u : Ticket) → (bytes_eq a u.denomination && leads_on (runs ts k) u.holder) ≡ true
            → bytes_eq a u.denomination ≡ true
        left u e = grind (arith, nat_tests)

    -- a chain that ends at a currency, and one that begins there
    tall-runs : (m k : ℕ) (a : NameBytes) → 1 ≤ times a (names_of g)
        → is_tall ss from to m (place (names_of g) a) ≡ true → runs ts (suc k) a ≡ true
        → runs-from (m + suc k) ≡ true
    unfolding is_tall
    tall-runs zero k a there tall on = grind (arith, nat_tests, runs-begun, place-base)
    tall-runs (suc m) k a there tall on =
        let p = place (names_of g) a in
        let one = found (IsPlaced g) (backs (is_tall ss from to m) p) ts known
        (last-step m p (below g ok a there) tall) in
        let back = backer (is_tall ss from to m) p one.0 one.1.1.0 in
        let same =
        same_name a back.holder
        (sym (place-same a back.holder (names_of g) there) ∙ ap (nat_eq p) (sym back.at) ∙ eq-eqb p p refl) in
        subst (λ n. runs-from n ≡ true) (omega arith)
        (tall-runs m (suc k) one.0.denomination one.1.0.denomination_known back.passes
        (runs-on one.0 back.holder (suc k) back.held one.1.1.1 (subst (λ d. runs ts (suc k) d ≡ true) same on)))

    pub tall-deep : (p : ℕ) → p < 65 → is_tall ss from to 8 p ≡ true → is_deep ts ≡ true
    unfolding is_deep runs
    tall-deep p lt tall =
        let one = found (IsPlaced g) (backs (is_tall ss from to 7) p) ts known (last-step 7 p lt tall) in
        let back = backer (is_tall ss from to 7) p one.0 one.1.1.0 in
        tall-runs 7 0 one.0.denomination one.1.0.denomination_known back.passes
        (runs-on one.0 back.holder 0 back.held one.1.1.1 refl)

  -- no chain of the graph is long
  module _ (ok : IsWellFormed g) where
    no-base : (test : ℕ → Bool) → list_any (λ (s : FundingTicket). test s.from) (funding_tickets_at ss 0) ≡ false
    no-base test = by (list_any (λ (s : FundingTicket). test s.from) (funding_tickets_at ss 0)) refl
      where
        none : list_any (backs test 0) g.tickets ≡ true → ⊥
        none e = grind (arith, nat_tests, found, backer, place-base, name_sym)

        by : (b : Bool) → list_any (λ (s : FundingTicket). test s.from) (funding_tickets_at ss 0) ≡ b
            → list_any (λ (s : FundingTicket). test s.from) (funding_tickets_at ss 0) ≡ false
        by true e = absurd (none (funding_ticket-ticket test 0 (omega arith) e))
        by false e = e

    base-flat : (m : ℕ) → is_tall ss 0 0 m 0 ≡ false
    unfolding is_tall
    base-flat zero = refl
    base-flat (suc m) = grind (arith, nat_tests, no-base (is_tall ss 0 0 m), base-flat m)

    pub never-tall : (p : ℕ) → p < 65 → is_tall ss 0 0 8 p ≡ true → ⊥
    unfolding is_deep
    never-tall p lt tall =
        let deep =
        tall-deep ok 0 0 g.tickets (placed g ok) (λ test q e. e)
        (λ m q e. absurd (true≢false (sym e ∙ and_false (nat_eq q 0) (is_tall ss 0 0 m 0) (base-flat m)))) p lt tall in
        let one =
        found (IsPlaced g) (λ (u : Ticket). not (bytes_eq u.denomination base) && runs g.tickets 8 u.denomination)
        g.tickets (placed g ok) deep in
        let two = parts (bytes_eq one.0.denomination base) (runs g.tickets 8 one.0.denomination) one.1.1.0 in
        true≢false
        (sym two.1
        ∙ runs-none g.tickets 8 one.0.denomination (λ b. ok.shallow.short one.0.denomination b two.0))
      where
        and_false : (a b : Bool) → b ≡ false → (a && b) ≡ false
        and_false true b e = e
        and_false false b e = refl

        parts : (a b : Bool) → (not a && b) ≡ true → (a ≡ false) × (b ≡ true)
        parts true b e = absurd (true≢false (sym e))
        parts false b e = (refl, e)
