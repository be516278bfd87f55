-- The funding tickets of a holder are as many as the tickets that fund it.
use Rattle.std.proofs.Common.{◌≡◌, ◌≤◌, ◌<◌, ◌&&◌, ℕ, zero, suc, Bool, true, false, cond, List, [], ◌∷◌, length}
use Rattle.std.proofs.Common.{sum_by, nat_eq, refl, sym, ap, ◌∙◌, true≢false, inl, inr, arith}
use Rattle.std.specs.List.{list_any}
use Rattle.std.proofs.lemmas.Bool.{eq-eqb, eqb-true, cases_lt}
use Rattle.std.proofs.lemmas.List.Sums.{sum_by-cons, length-filter}
use Rattle.std.proofs.lemmas.Bool.Decides.{nat_tests}
use Rattle.share_model.specs.declared.funding.Holder.{Holder}
use Rattle.share_model.specs.declared.funding.Holder.TheVariants.{Nobody, Currency, Flow}
use Rattle.share_model.specs.declared.funding.Ticket.{Ticket}
use Rattle.share_model.specs.declared.funding.OpenFlow.{OpenFlow}
use Rattle.share_model.specs.funding.Graph.{NameBytes, Graph, backing, funding}
use Rattle.share_model.specs.funding.Changes.{is_open_as}
use Rattle.share_model.specs.funding.WellFormed.{names_of, times, times_open, IsHolderKnown, IsWellFormed}
use Rattle.share_model.proofs.lemmas.lists.SumLemmas.{sum_by-same, sum_by-same_of}
use Rattle.share_ledger.specs.declared.routes.Route.{Route}
use Rattle.share_ledger.specs.declared.funding_tickets.FundingTicket.{FundingTicket}
use Rattle.share_ledger.specs.Places.{place}
use Rattle.share_ledger.specs.Valuations.{GrowsBy}
use Rattle.share_ledger.specs.Routes.{is_kind, flow_place, holder_place, routes_of}
use Rattle.share_ledger.specs.FundingTickets.{is_like, funding_tickets_at, funding_ticket_of, AreTicketed, backs_of}
use Rattle.share_ledger.specs.FundingTickets.{funds_of}
use Rattle.share_ledger.proofs.PlaceLemmas.{place-same, IsPlaced, placed}
use Rattle.share_ledger.proofs.FirstItemLemmas.{IsFirstAt}
use Rattle.share_ledger.proofs.RouteListLemmas.{flow-place-first}
use Rattle.share_ledger.proofs.FundingChainLemmas.{any-sum, found}
use Rattle.share_ledger.proofs.RouteWorthLemmas.{sum-routes, below, flow-place-same, flow-place-below}

pub ones : {X : Type 0} (xs : List X) → length xs ≡ sum_by (λ _. 1) xs
ones [] = refl
ones {X} (x ∷ xs) =
    let rest = ones xs in
    let one = sum_by-cons {X = X} (λ _. 1) x xs in
    omega arith

-- the tickets that fund a currency
pub backing-routes : (g : Graph) → IsWellFormed g → (c : NameBytes) → 1 ≤ times c (names_of g)
    → sum_by (λ (r : Route). cond (nat_eq (place (names_of g) c) r.to) 1 0) (backs_of g) ≡ length (backing g.tickets c)
unfolding backing
backing-routes g ok c known =
    grind (arith, nat_tests, sum-routes, sum_by-same_of, IsPlaced, placed, length-filter, place-same)

pub backing-count : (g : Graph) → IsWellFormed g → (ss : List (List FundingTicket)) → AreTicketed (backs_of g) ss
    → (c : NameBytes)
    → 1 ≤ times c (names_of g) → length (funding_tickets_at ss (place (names_of g) c)) ≡ length (backing g.tickets c)
backing-count g ok ss ticketed c known =
    ones (funding_tickets_at ss (place (names_of g) c))
    ∙ ticketed.ticketed (λ _. 1) (place (names_of g) c) (below g ok c known)
    ∙ backing-routes g ok c known

-- a flow at a place is open
pub first-open : (f : ℕ) (es : List (NameBytes × OpenFlow)) (i : ℕ) → IsFirstAt (is_open_as f) es i
    → 1 ≤ times_open f es
first-open f [] i first = absurd first
first-open f (e ∷ es) zero first =
    grind (arith, nat_tests, sum_by-cons (λ (x : NameBytes × OpenFlow). cond (nat_eq x.1.number f) 1 0) e es)
first-open f (e ∷ es) (suc i) first =
    let rest = first-open f es i first.1 in
    let more = sum_by-cons (λ (x : NameBytes × OpenFlow). cond (nat_eq x.1.number f) 1 0) e es in
    omega arith

-- the tickets that fund a flow
pub funding-routes : (g : Graph) → IsWellFormed g → (f : ℕ) → 1 ≤ times_open f g.flows
    → sum_by (λ (r : Route). cond (nat_eq (flow_place g.flows f) r.to) 1 0) (funds_of g) ≡ length (funding g.tickets f)
unfolding funding
funding-routes g ok f known =
    grind (arith, nat_tests, sum-routes, sum_by-same_of, IsPlaced, placed, length-filter, flow-place-same)

pub funding-count : (g : Graph) → IsWellFormed g → (ss : List (List FundingTicket)) → AreTicketed (funds_of g) ss
    → (f i : ℕ)
    → IsFirstAt (is_open_as f) g.flows i → length (funding_tickets_at ss i) ≡ length (funding g.tickets f)
funding-count g ok ss ticketed f i first =
    ones (funding_tickets_at ss i) ∙ ticketed.ticketed (λ _. 1) i inside
    ∙ ap (λ p. sum_by (λ (r : Route). cond (nat_eq p r.to) 1 0) (funds_of g)) at
    ∙ funding-routes g ok f (first-open f g.flows i first)
  where
    at : i ≡ flow_place g.flows f
    at = flow-place-first f g.flows i first

    inside : i < 65
    inside = grind (arith, nat_tests, flow-place-below, first-open, at)

-- no holder has more than sixteen
pub routes-few_at : (g : Graph) → IsWellFormed g → (b : Bool) (p : ℕ)
    → sum_by (λ (r : Route). cond (nat_eq p r.to) 1 0) (routes_of g b g.tickets) ≤ 16
routes-few_at g ok b p =
    elim (cases_lt 0 (sum_by (λ (r : Route). cond (nat_eq p r.to) 1 0) (routes_of g b g.tickets))) [
      | inl some ↦ by b some
      | inr none ↦ omega arith
    ]
  where
    both : (a b : Bool) → ◌≡◌ {A = ℕ} (cond a (cond b 1 0) 0) (cond (a && b) 1 0)
    both true b = refl
    both false b = refl

    one : (b : Bool) → 0 < sum_by (λ (r : Route). cond (nat_eq p r.to) 1 0) (routes_of g b g.tickets)
        → list_any (λ (t : Ticket). is_kind b t.holder && nat_eq p (holder_place g t.holder)) g.tickets ≡ true
    one b some = grind (arith, nat_tests, sum-routes, sum_by-same, both, any-sum)

    at-holder : (b : Bool) (h : Holder) → IsHolderKnown g h → (is_kind b h && nat_eq p (holder_place g h)) ≡ true
        → sum_by (λ (r : Route). cond (nat_eq p r.to) 1 0) (routes_of g b g.tickets) ≤ 16
    at-holder b Nobody there e = absurd (true≢false (sym e))
    at-holder true (Currency c) there e =
        let is = eqb-true p (place (names_of g) c) e in
        let same = ap (λ q. sum_by (λ (r : Route). cond (nat_eq q r.to) 1 0) (backs_of g)) is
        ∙ backing-routes g ok c there in
        let few = ok.uncrowded.currencies c in
        omega arith
    at-holder false (Currency c) there e = absurd (true≢false (sym e))
    at-holder true (Flow f) there e = absurd (true≢false (sym e))
    at-holder false (Flow f) there e =
        let is = eqb-true p (flow_place g.flows f) e in
        let same = ap (λ q. sum_by (λ (r : Route). cond (nat_eq q r.to) 1 0) (funds_of g)) is
        ∙ funding-routes g ok f there in
        let few = ok.uncrowded.flows f in
        omega arith

    by : (b : Bool) → 0 < sum_by (λ (r : Route). cond (nat_eq p r.to) 1 0) (routes_of g b g.tickets)
        → sum_by (λ (r : Route). cond (nat_eq p r.to) 1 0) (routes_of g b g.tickets) ≤ 16
    by b some = grind (arith, nat_tests, found, IsPlaced, placed, one, at-holder)

-- there is room for one funding ticket more if that is so with it
pub room-more : (g : Graph) → IsWellFormed g → (b : Bool) (rs : List Route) (r : Route) (ss : List (List FundingTicket))
    → AreTicketed rs ss
    → r.to < 65 → GrowsBy true rs (routes_of g b g.tickets) r → length (funding_tickets_at ss r.to) < 16
room-more g ok b rs r ss ticketed lt grows =
    grind (arith, nat_tests, routes-few_at g ok b r.to, ones (funding_tickets_at ss r.to), eq-eqb)

-- the funding ticket of a route is there
pub funding_ticket-there : (rs less : List Route) (r : Route) (ss : List (List FundingTicket)) → AreTicketed rs ss
    → r.to < 65
    → GrowsBy true less rs r → list_any (is_like (funding_ticket_of r)) (funding_tickets_at ss r.to) ≡ true
funding_ticket-there rs less r ss ticketed lt grows = grind (arith, nat_tests, any-sum)
