-- Routes are the same if a currency after all of them is removed.
use Rattle.std.proofs.Common.{◌≡◌, ◌<◌, ℕ, Bool, true, false, cond, not, ◌&&◌, List, [], ◌∷◌}
use Rattle.std.proofs.Common.{length, sum_by, bytes_eq, nat_eq, nat_lt, None, refl, sym, ap, ◌∙◌, arith}
use Rattle.std.proofs.Common.{true≢false}
use Rattle.std.specs.List.{list_all}
use Rattle.std.specs.Set.{remove_key}
use Rattle.std.proofs.lemmas.List.Sums.{sum_by-cons}
use Rattle.std.proofs.lemmas.Bool.Decides.{nat_tests}
use Rattle.std.proofs.lemmas.Bool.{ltb-false, eq-eqb, and_parts, ltb-true}
use Rattle.share_base.specs.declared.refusal.Refusal.TheVariants.{NoCurrency, Base}
use Rattle.share_model.specs.declared.funding.Holder.{Holder}
use Rattle.share_model.specs.declared.funding.Holder.TheVariants.{Nobody, Currency, Flow}
use Rattle.share_model.specs.declared.funding.Ticket.{Ticket}
use Rattle.share_model.specs.funding.Graph.{NameBytes, base, Graph}
use Rattle.share_model.proofs.lemmas.funding.RefusalLemmas.{not-refused}
use Rattle.share_model.specs.funding.Changes.{is_currency, remove_currency_refusal, remove_currency}
use Rattle.share_model.specs.funding.WellFormed.{names_of, IsWellFormed}
use Rattle.share_model.specs.lists.Each.{Each}
use Rattle.share_ledger.specs.Bounds.{AreBefore}
use Rattle.share_ledger.specs.declared.routes.Route.{Route}
use Rattle.share_ledger.specs.declared.funding_tickets.FundingTicket.{FundingTicket}
use Rattle.share_ledger.specs.Places.{place}
use Rattle.share_ledger.specs.Routes.{holder_place, is_kind, route_of, routes_of}
use Rattle.share_ledger.specs.FundingTickets.{funding_tickets_at, funding_ticket_of, AreTicketed, backs_of, funds_of}
use Rattle.share_ledger.proofs.PlaceLemmas.{IsPlaced, placed}
use Rattle.share_ledger.proofs.RouteListLemmas.{routes-cons, route-within}
use Rattle.share_ledger.proofs.RouteWorthLemmas.{sum-routes}
use Rattle.share_ledger.proofs.UnchangedRouteLemmas.{route-same}
use Rattle.share_ledger.proofs.ListLemmas.{no-term}

-- a name before one that is taken out keeps its place
place-removed : (c d : NameBytes) (cs : List NameBytes) → place cs d < place cs c
    → place cs d ≡ place (remove_key (bytes_eq c) cs) d
unfolding place
place-removed c d [] lt = absurd (omega arith)
place-removed c d (x ∷ cs) lt = grind (arith, nat_tests, place-removed c d cs)

-- a property of all funding tickets is one of all routes
module _ (g : Graph) (b : Bool) (ss : List (List FundingTicket)) (ticketed : AreTicketed (routes_of g b g.tickets) ss)
    (Q : ℕ → FundingTicket → Bool) (each : (p : ℕ) → p < 65 → Each (λ s. Q p s ≡ true) (funding_tickets_at ss p)) where
  abbrev pub fault : ℕ → FundingTicket → ℕ
  fault p s = cond (Q p s) 0 1

  abbrev pub ticket-part : ℕ → Ticket → ℕ
  ticket-part p t =
      cond (is_kind b t.holder) (cond (nat_eq p (route_of g t).to) (fault p (funding_ticket_of (route_of g t))) 0) 0

  no-faults : (p : ℕ) (xs : List FundingTicket) → Each (λ s. Q p s ≡ true) xs → sum_by (fault p) xs ≡ 0
  no-faults p [] each = refl
  no-faults p (x ∷ xs) each = grind (arith, nat_tests, sum_by-cons, no-faults p xs each.1)

  each-swap : (R : ℕ → Ticket → Type 0) (ts : List Ticket) → ((p : ℕ) → p < 65 → Each (R p) ts)
      → Each (λ t. (p : ℕ) → p < 65 → R p t) ts
  each-swap R [] all = tt
  each-swap R (t ∷ ts) all = (λ p lt. (all p lt).0, each-swap R ts (λ p lt. (all p lt).1))

  pub funding_tickets-tell : Each (λ t. (p : ℕ) → p < 65 → ticket-part p t ≡ 0) g.tickets
  funding_tickets-tell =
      each-swap (λ p t. ticket-part p t ≡ 0) g.tickets
      (λ p lt. no-term (ticket-part p) g.tickets
      (sym
      (sym (no-faults p (funding_tickets_at ss p) (each p lt)) ∙ ticketed.ticketed (fault p) p lt
      ∙ sum-routes g (λ (r : Route). cond (nat_eq p r.to) (fault p (funding_ticket_of r)) 0) b)))

  pub route-tells : (t : Ticket) → (route_of g t).to < 65 → is_kind b t.holder ≡ true
      → ((p : ℕ) → p < 65 → ticket-part p t ≡ 0) → Q (route_of g t).to (funding_ticket_of (route_of g t)) ≡ true
  route-tells t inside kind none = grind (arith, nat_tests, eq-eqb)

all-each : {X : Type 0} (p : X → Bool) (xs : List X) → list_all p xs ≡ true → Each (λ x. p x ≡ true) xs
all-each p [] e = tt
all-each p (x ∷ xs) e = by (p x) refl e (all-each p xs)
  where
    by : (b : Bool) → p x ≡ b → (b && list_all p xs) ≡ true → (list_all p xs ≡ true → Each (λ x. p x ≡ true) xs)
        → (p x ≡ true) × Each (λ x. p x ≡ true) xs
    by true q all rest = (q, rest all)
    by false q all rest = absurd (true≢false (sym all))

routes-none : (g h : Graph) (b : Bool) → routes_of g b [] ≡ routes_of h b []
unfolding routes_of
routes-none g h b = refl

-- A currency is removed
module _ (g : Graph) (ok : IsWellFormed g) (c : NameBytes) (unused : remove_currency_refusal g c ≡ None) where
  apart : bytes_eq c base ≡ false
  apart = (not-refused (bytes_eq c base) Base _ (not-refused (not (is_currency g c)) NoCurrency _ unused).1).0

  stays : (d : NameBytes) → place (names_of g) d < place (names_of g) c
      → place (names_of g) d ≡ place (names_of (remove_currency g c)) d
  stays d lt = grind (arith, nat_tests, place-removed c d (names_of g) lt, apart)

  -- a ticket that is a route, from before the currency and to before it
  abbrev IsEarly : Bool → Ticket → Type 0
  IsEarly b t = is_kind b t.holder ≡ true
      → (place (names_of g) t.denomination < place (names_of g) c)
      × (b ≡ true → (route_of g t).to < place (names_of g) c)

  early-holder : (b : Bool) (h : Holder) → is_kind b h ≡ true
      → (b ≡ true → holder_place g h < place (names_of g) c) → holder_place g h ≡ holder_place (remove_currency g c) h
  early-holder b Nobody kind early = refl
  early-holder b (Flow f) kind early = refl
  early-holder b (Currency d) kind early = stays d (early kind)

  early-routes : (b : Bool) (ts : List Ticket) → Each (IsEarly b) ts
      → routes_of g b ts ≡ routes_of (remove_currency g c) b ts
  early-routes b [] each = routes-none g (remove_currency g c) b
  early-routes b (t ∷ ts) each =
      grind (arith, nat_tests, routes-cons, route-same, stays, early-holder, early-routes b ts each.1)

  module _ (bs fs : List (List FundingTicket)) (backs : AreTicketed (backs_of g) bs)
      (funds : AreTicketed (funds_of g) fs)
      (before : AreBefore bs fs (place (names_of g) c)) where
    abbrev is_early : ℕ → FundingTicket → Bool
    is_early p s = nat_lt p (place (names_of g) c) && nat_lt s.from (place (names_of g) c)

    back-funding_tickets : (p : ℕ) → p < 65 → Each (λ s. is_early p s ≡ true) (funding_tickets_at bs p)
    back-funding_tickets p lt = by (nat_lt p (place (names_of g) c)) refl
      where
        all : nat_lt p (place (names_of g) c) ≡ true → (xs : List FundingTicket)
            → Each (λ (s : FundingTicket). nat_lt s.from (place (names_of g) c) ≡ true) xs
            → Each (λ s. is_early p s ≡ true) xs
        all under [] each = tt
        all under (x ∷ xs) each = (
          ap (λ k. k && nat_lt x.from (place (names_of g) c)) under ∙ each.0,
          all under xs each.1,
        )

        none : (xs : List FundingTicket) → length xs ≡ 0 → Each (λ s. is_early p s ≡ true) xs
        none [] e = tt
        none (x ∷ xs) e = absurd (omega arith)

        by : (b : Bool) → nat_lt p (place (names_of g) c) ≡ b
            → Each (λ s. is_early p s ≡ true) (funding_tickets_at bs p)
        by true e =
            all e (funding_tickets_at bs p)
            (all-each (λ (s : FundingTicket). nat_lt s.from (place (names_of g) c)) (funding_tickets_at bs p)
            (before.backed p lt))
        by false e = none (funding_tickets_at bs p) (before.empty p (ltb-false p (place (names_of g) c) e) lt)

    fund-funding_tickets : (p : ℕ) → p < 65
        → Each (λ s. nat_lt s.from (place (names_of g) c) ≡ true) (funding_tickets_at fs p)
    fund-funding_tickets p lt =
        all-each (λ (s : FundingTicket). nat_lt s.from (place (names_of g) c)) (funding_tickets_at fs p)
        (before.before p lt)

    early-backs : (ts : List Ticket) → Each (IsPlaced g) ts
        → Each (λ t. (p : ℕ) → p < 65 → ticket-part g true bs backs is_early back-funding_tickets p t ≡ 0) ts
        → Each (IsEarly true) ts
    early-backs [] known none = tt
    early-backs (t ∷ ts) known none = (
      λ kind.
          let inside = (route-within g ok t known.0).to_place in
          let told =
          and_parts _ _ (route-tells g true bs backs is_early back-funding_tickets t inside kind none.0) in
          (ltb-true _ _ told.1, λ _. ltb-true _ _ told.0),
      early-backs ts known.1 none.1,
    )

    early-funds : (ts : List Ticket) → Each (IsPlaced g) ts
        → Each (λ t. (p : ℕ) → p < 65 → ticket-part g false fs funds (λ p s. nat_lt s.from (place (names_of g) c))
        fund-funding_tickets p t ≡ 0) ts
        → Each (IsEarly false) ts
    early-funds [] known none = tt
    early-funds (t ∷ ts) known none = (
      λ kind.
          let inside = (route-within g ok t known.0).to_place in
          let told =
          route-tells g false fs funds (λ p s. nat_lt s.from (place (names_of g) c)) fund-funding_tickets t inside kind
          none.0 in
          (ltb-true _ _ told, λ e. absurd (true≢false (sym e))),
      early-funds ts known.1 none.1,
    )

    pub routes-remove_currency : (b : Bool)
        → routes_of g b g.tickets ≡ routes_of (remove_currency g c) b g.tickets
    routes-remove_currency true =
        early-routes true g.tickets
        (early-backs g.tickets (placed g ok) (funding_tickets-tell g true bs backs is_early back-funding_tickets))
    routes-remove_currency false =
        early-routes false g.tickets
        (early-funds g.tickets (placed g ok)
        (funding_tickets-tell g false fs funds (λ p s. nat_lt s.from (place (names_of g) c)) fund-funding_tickets))
