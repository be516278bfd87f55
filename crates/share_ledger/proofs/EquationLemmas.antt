-- Weights, values and tickets that meet the equations of one step, place by place, are those of the definition.
use Rattle.std.proofs.Common.{◌≡◌, ◌≤◌, ◌<◌, ◌+◌, ◌^◌, ℕ, zero, suc, Bool, true, false, cond, ◌&&◌}
use Rattle.std.proofs.Common.{List, [], ◌∷◌, map, take, sum_by, length, bytes_eq, nat_eq, nat_lt, get_or}
use Rattle.std.proofs.Common.{Some, option_map, slice_get, refl, sym, ap, subst, ◌∙◌, arith}
use Rattle.std.specs.List.{list_any}
use Rattle.std.proofs.lemmas.List.Sums.{sum_by-cons}
use Rattle.std.proofs.lemmas.Bool.Decides.{nat_tests}
use Rattle.std.proofs.lemmas.Option.{same_Some}
use Rattle.std.proofs.lemmas.Bool.{eqb-true}
use Rattle.share_model.specs.declared.funding.Holder.{Holder}
use Rattle.share_model.specs.declared.funding.Holder.TheVariants.{Nobody, Currency, Flow}
use Rattle.share_model.specs.declared.funding.Ticket.{Ticket}
use Rattle.share_model.specs.declared.funding.OpenFlow.{OpenFlow}
use Rattle.share_model.specs.funding.Graph.{NameBytes, base, Graph, holder_is_currency, denominated_in, backing}
use Rattle.share_model.specs.funding.Graph.{is_active_flow}
use Rattle.share_model.specs.funding.Graph.{is_active_holder, act, is_active, active, worth_by, val, tickets}
use Rattle.share_model.specs.lists.Each.{Each}
use Rattle.share_model.proofs.lemmas.lists.FirstItemLemmas.{each_map}
use Rattle.share_model.proofs.lemmas.lists.SumLemmas.{Each-filter, sum_by-same, sum_by-same_of, sum_by-filter}
use Rattle.share_model.proofs.lemmas.lists.SumLemmas.{name_sym, same_name}
use Rattle.share_model.specs.funding.WellFormed.{names_of, times, times_open, IsHolderKnown, IsWellFormed}
use Rattle.share_model.specs.funding.Laws.{uncapped_tickets}
use Rattle.share_model.proofs.lemmas.funding.SettledGraphLemmas.{any-same, act-unique, val-unique, any-above}
use Rattle.share_ledger.specs.declared.routes.Route.{Route}
use Rattle.share_ledger.specs.declared.funding_tickets.FundingTicket.{FundingTicket}
use Rattle.share_ledger.specs.Places.{place}
use Rattle.share_ledger.specs.Arrays.{flags_of, numbers_of}
use Rattle.share_ledger.specs.Routes.{flow_place, routes_of, weight_from, carried_by, value_to, value_after}
use Rattle.share_ledger.specs.FundingTickets.{funding_ticket_worth, funding_tickets_at, worth_at, AreTicketed}
use Rattle.share_ledger.specs.FundingTickets.{AreCounted, AreAwake, AreValued}
use Rattle.share_ledger.specs.FundingTickets.{AreShared, HaveValues, IsFundingTicketWithin, backs_of, funds_of}
use Rattle.share_ledger.specs.Ranks.{AreRanks}
use Rattle.share_ledger.specs.declared.valuation.Valuation.{Valuation}
use Rattle.share_ledger.specs.Valuations.{HasInputs, IsReady, activity_of}
use Rattle.share_ledger.specs.Cache.{ticket_list, IsCurrent}
use Rattle.share_ledger.proofs.PlaceLemmas.{place-base}
use Rattle.share_ledger.proofs.WeightLemmas.{worth_at-above}
use Rattle.share_ledger.proofs.RouteListLemmas.{share-at, activity-at}
use Rattle.share_ledger.proofs.RouteWorthLemmas.{below, lead, weight_from-is, whole-is, value_to-currency}
use Rattle.share_ledger.proofs.RouteWorthLemmas.{value_to-flow}
use Rattle.share_ledger.proofs.RouteWorthLemmas.{flow-place-below, value_after-bound}

-- the worth of the funding tickets of a place is the value that its routes carry
pub worth_at-value_to : (rs : List Route) (ss : List (List FundingTicket)) (on : ℕ → Bool) (v whole : ℕ → ℕ) (p : ℕ)
    → AreTicketed rs ss → p < 65 → worth_at ss on v whole p ≡ value_to rs on (carried_by v whole) p
unfolding value_to
worth_at-value_to rs ss on v whole p ticketed lt = by (on p) refl
  where
    term : (b : Bool) → on p ≡ b → (r : Route) → (a : Bool) → nat_eq p r.to ≡ a
        → cond b (cond a (carried_by v whole r) 0) 0 ≡ cond (a && on r.to) (carried_by v whole r) 0
    term true lit r true e = sym (ap (λ b. cond b (carried_by v whole r) 0) (ap on (sym (eqb-true p r.to e)) ∙ lit))
    term true lit r false e = refl
    term false dark r true e = sym (ap (λ b. cond b (carried_by v whole r) 0) (ap on (sym (eqb-true p r.to e)) ∙ dark))
    term false dark r false e = refl

    all : (b : Bool) → on p ≡ b → (qs : List Route)
        → sum_by (λ (r : Route). cond b (cond (nat_eq p r.to) (carried_by v whole r) 0) 0) qs
        ≡ sum_by (λ (r : Route). cond (nat_eq p r.to && on r.to) (carried_by v whole r) 0) qs
    all b e [] = refl
    all b e (r ∷ qs) =
        sum_by-cons (λ (r : Route). cond b (cond (nat_eq p r.to) (carried_by v whole r) 0) 0) r qs
        ∙ ap (λ n. n + sum_by (λ (r : Route). cond b (cond (nat_eq p r.to) (carried_by v whole r) 0) 0) qs)
        (term b e r (nat_eq p r.to) refl)
        ∙ ap (λ n. cond (nat_eq p r.to && on r.to) (carried_by v whole r) 0 + n) (all b e qs)
        ∙ sym (sum_by-cons (λ (r : Route). cond (nat_eq p r.to && on r.to) (carried_by v whole r) 0) r qs)

    nothing : (qs : List Route) → 0 ≡ sum_by (λ (r : Route). 0) qs
    nothing [] = refl
    nothing (r ∷ qs) = nothing qs ∙ omega (arith, sum_by-cons (λ (r : Route). 0) r qs)

    by : (b : Bool) → on p ≡ b
        → cond b (sum_by (funding_ticket_worth v whole) (funding_tickets_at ss p)) 0
        ≡ sum_by (λ (r : Route). cond (nat_eq p r.to && on r.to) (carried_by v whole r) 0) rs
    by true e = ticketed.ticketed (funding_ticket_worth v whole) p lt ∙ all true e rs
    by false e = nothing rs ∙ all false e rs

-- no route that backs a currency leads to `base`
backs-apart : (g : Graph) (ts : List Ticket)
    → Each (λ (t : Ticket). holder_is_currency base t.holder ≡ false) ts
    → Each (λ (r : Route). nat_eq r.to 0 ≡ false) (routes_of g true ts)
unfolding routes_of
backs-apart g [] each = tt
backs-apart g (t ∷ ts) each = grind (arith, nat_tests, place-base, name_sym, backs-apart g ts each.1)

module _ (g : Graph) (ok : IsWellFormed g) (lit on : ℕ → Bool) (whole value : ℕ → ℕ)
    (flows : (f : ℕ) → 1 ≤ times_open f g.flows → lit (flow_place g.flows f) ≡ is_active_flow g f)
    (counted : AreCounted (backs_of g) (funds_of g) on lit whole) (awake : AreAwake on whole) where
  -- nothing is said of the place of `base`
  held : ℕ → Bool
  held p = cond (nat_eq p 0) (list_any (act g 8) (denominated_in g.tickets base)) (on p)

  held-apart : (p : ℕ) → nat_eq p 0 ≡ false → held p ≡ on p
  unfolding held
  held-apart p e = ap (λ b. cond b (list_any (act g 8) (denominated_in g.tickets base)) (on p)) e

  counted-held : (p : ℕ) → p < 65
      → whole p ≡ weight_from (routes_of g true g.tickets) held p + weight_from (routes_of g false g.tickets) lit p
  unfolding weight_from
  counted-held p lt = grind (arith, nat_tests, sum_by-same_of, held, backs-apart, held-apart)

  -- the active places by name
  said : NameBytes → Bool
  said c = list_any (λ (t : Ticket). lead g on t.holder) (denominated_in g.tickets c)

  saying : Holder → Bool
  saying Nobody = false
  saying (Currency c) = said c
  saying (Flow f) = is_active_flow g f

  apart-place : (c : NameBytes) → bytes_eq c base ≡ false → 0 < place (names_of g) c
  apart-place c e = grind (arith, nat_tests, place-base g c)

  -- a currency is awake if some of its tickets are said to be active
  on-said : (c : NameBytes) → 1 ≤ times c (names_of g) → bytes_eq c base ≡ false → on (place (names_of g) c) ≡ said c
  unfolding said denominated_in
  on-said c known other =
      let p = place (names_of g) c in
      let lt = below g ok c known in
      awake p (apart-place c other) lt
      ∙ ap (nat_lt 0)
      (counted p lt ∙ weight_from-is g ok lit on flows c known
      ∙ sym (sum_by-filter (λ (t : Ticket). cond (lead g on t.holder) t.amount 0)
      (λ (t : Ticket). bytes_eq c t.denomination) g.tickets))
      ∙ any-above (λ (t : Ticket). lead g on t.holder) (denominated_in g.tickets c)
      (each_map _ (λ (t : Ticket). 1 ≤ t.amount) (λ t e. e.0.0) (denominated_in g.tickets c)
      (Each-filter (λ (t : Ticket). (1 ≤ t.amount) × (t.amount ≤ 2 ^ 20))
      (λ (t : Ticket). bytes_eq c t.denomination) g.tickets ok.amounts))

  -- a ticket that has a place funds no `base`
  pub record IsSaid (t : Ticket) : Type 0 where
    pub place_known : IsHolderKnown g t.holder
    pub unbacked : holder_is_currency base t.holder ≡ false

  all-said : Each IsSaid g.tickets
  all-said = all g.tickets ok.held ok.shallow.unbacked
    where
      all : (ts : List Ticket) → Each (λ (t : Ticket). IsHolderKnown g t.holder) ts
          → Each (λ (t : Ticket). holder_is_currency base t.holder ≡ false) ts → Each IsSaid ts
      all [] a b = tt
      all (t ∷ ts) a b = (record { place_known = a.0; unbacked = b.0 }, all ts a.1 b.1)

  lead-saying : (h : Holder) → IsHolderKnown g h → holder_is_currency base h ≡ false → lead g on h ≡ saying h
  unfolding saying
  lead-saying Nobody known other = refl
  lead-saying (Currency c) known other = on-said c known (name_sym c base ∙ other)
  lead-saying (Flow f) known other = refl

  saying-step : (h : Holder) → saying h ≡ is_active_holder g (λ (t : Ticket). saying t.holder) h
  unfolding saying said denominated_in
  saying-step Nobody = refl
  saying-step (Flow f) = refl
  saying-step (Currency c) =
      grind (arith, nat_tests, any-same, lead, saying, each_map, lead-saying, Each-filter, all-said)

  held-are : (c : NameBytes) → 1 ≤ times c (names_of g)
      → held (place (names_of g) c) ≡ list_any (act g 8) (denominated_in g.tickets c)
  unfolding held saying is_active act
  held-are c known = by (bytes_eq c base) refl
    where
      by : (b : Bool) → bytes_eq c base ≡ b
          → held (place (names_of g) c) ≡ list_any (act g 8) (denominated_in g.tickets c)
      by true e =
          ap (λ b. cond b (list_any (act g 8) (denominated_in g.tickets base)) (on (place (names_of g) c)))
          (place-base g c ∙ e)
          ∙ ap (λ d. list_any (act g 8) (denominated_in g.tickets d)) (sym (same_name c base e))
      by false e =
          held-apart (place (names_of g) c) (place-base g c ∙ e) ∙ on-said c known e
          ∙ sym (act-unique g ok.shallow (λ (t : Ticket). saying t.holder) (λ (t : Ticket). saying-step t.holder)
          (record { number = 0; amount = 0; denomination = c; holder = Currency c }) (name_sym base c ∙ e))

  wholes : (c : NameBytes) → 1 ≤ times c (names_of g) → whole (place (names_of g) c) ≡ active g c
  wholes = whole-is g ok lit held flows held-are whole counted-held

  -- values by rounds over the routes
  rounds : ℕ → ℕ → ℕ
  rounds n p = value_after (routes_of g true g.tickets) held whole n p

  each-two : (P Q : FundingTicket → Type 0) (xs : List FundingTicket) → Each P xs → Each Q xs
      → Each (λ (s : FundingTicket). P s × Q s) xs
  each-two P Q [] a b = tt
  each-two P Q (x ∷ xs) a b = ((a.0, b.0), each-two P Q xs a.1 b.1)

  -- nothing is said of the value of `base` either
  valued_as : ℕ → ℕ
  valued_as p = cond (nat_eq p 0) (val g 9 base) (value p)

  value_after-apart : (p : ℕ) → nat_eq p 0 ≡ false → valued_as p ≡ value p
  unfolding valued_as
  value_after-apart p e = ap (λ b. cond b (val g 9 base) (value p)) e

  carried_by-same : (r : Route) → carried_by value whole r ≡ carried_by valued_as whole r
  carried_by-same r = grind (arith, nat_tests, valued_as, value_after-apart)

  value_to-same : (rs : List Route) (flag : ℕ → Bool) (p : ℕ)
      → value_to rs flag (carried_by value whole) p ≡ value_to rs flag (carried_by valued_as whole) p
  unfolding value_to
  value_to-same rs flag p =
      sum_by-same (λ (r : Route). cond (nat_eq p r.to && flag r.to) (carried_by value whole r) 0)
      (λ (r : Route). cond (nat_eq p r.to && flag r.to) (carried_by valued_as whole r) 0) rs
      (λ r. ap (λ n. cond (nat_eq p r.to && flag r.to) n 0) (carried_by-same r))

  value_to-held : (p : ℕ) (carry : Route → ℕ)
      → value_to (routes_of g true g.tickets) on carry p ≡ value_to (routes_of g true g.tickets) held carry p
  unfolding value_to
  value_to-held p carry = grind (arith, nat_tests, sum_by-same_of, held, backs-apart, held-apart)

  -- the values of n rounds are those of one more
  round-values : (bs : List (List FundingTicket)) (rank : ℕ → ℕ) → AreTicketed (backs_of g) bs → AreRanks bs rank
      → (n p : ℕ)
      → 0 < p → p < 65 → rank p ≤ n → rounds n p ≡ rounds (suc n) p
  unfolding rounds value_after
  round-values bs rank ticketed ranked zero p up lt low = let high = ranked.high p up lt in absurd (omega arith)
  round-values bs rank ticketed ranked (suc n) p up lt low =
      sym (worth_at-value_to (backs_of g) bs held (rounds n) whole p ticketed lt)
      ∙ worth_at-above bs held (rounds n) (rounds (suc n)) whole p
      (λ (s : FundingTicket). IsFundingTicketWithin s × (rank s.from < rank p))
      (each-two IsFundingTicketWithin (λ (s : FundingTicket). rank s.from < rank p) (funding_tickets_at bs p)
      (ticketed.within p lt)
      (ranked.above p up lt))
      (λ s made at. round-values bs rank ticketed ranked n s.from made at.0.from_place
      (let less = at.1 in omega arith))
      ∙ worth_at-value_to (backs_of g) bs held (rounds (suc n)) whole p ticketed lt

  -- so there are values, and small ones
  pub have-values : (bs : List (List FundingTicket)) (rank : ℕ → ℕ) → AreTicketed (backs_of g) bs → AreRanks bs rank
      → HaveValues bs on whole
  unfolding rounds value_after
  have-values bs rank ticketed ranked = (
    rounds 9,
    (
      λ p up lt.
          round-values bs rank ticketed ranked 9 p up lt (let low = ranked.low p in omega arith)
          ∙ sym (worth_at-value_to (backs_of g) bs held (rounds 9) whole p ticketed lt)
          ∙ ap (λ b. cond b (sum_by (funding_ticket_worth (rounds 9) whole) (funding_tickets_at bs p)) 0)
          (held-apart p (apart p up)),
      λ p lt. value_after-bound g ok lit held flows held-are whole wholes 9 p (omega arith) lt,
    ),
  )
    where
      apart : (p : ℕ) → 0 < p → nat_eq p 0 ≡ false
      apart p up = grind (arith, nat_tests)

  named : NameBytes → ℕ
  named c = valued_as (place (names_of g) c)

  named-is : (c : NameBytes) → valued_as (place (names_of g) c) ≡ named c
  unfolding named
  named-is c = refl

  value_after-base : (p : ℕ) → nat_eq p 0 ≡ true → valued_as p ≡ val g 9 base
  unfolding valued_as
  value_after-base p e = ap (λ b. cond b (val g 9 base) (value p)) e

  worthy : NameBytes → ℕ
  worthy c = sum_by (worth_by g named) (backing g.tickets c)

  module _ (bs : List (List FundingTicket)) (ticketed : AreTicketed (backs_of g) bs)
      (value_after : AreValued bs on value whole) where
    named-worthy : (c : NameBytes) → 1 ≤ times c (names_of g) → bytes_eq c base ≡ false → named c ≡ worthy c
    unfolding named worthy
    named-worthy c known other =
        let p = place (names_of g) c in
        let lt = below g ok c known in
        value_after-apart p (place-base g c ∙ other) ∙ value_after p (apart-place c other) lt
        ∙ worth_at-value_to (backs_of g) bs on value whole p ticketed lt
        ∙ value_to-held p (carried_by value whole) ∙ value_to-same (routes_of g true g.tickets) held p
        ∙ value_to-currency g ok lit held flows held-are whole wholes valued_as named (λ c known. refl) c known

    worth-worthy : (t : Ticket) → 1 ≤ times t.denomination (names_of g) → worth_by g named t ≡ worth_by g worthy t
    unfolding worth_by
    worth-worthy t known = grind (arith, nat_tests, named, worthy, named-worthy)

    worthy-step : (c : NameBytes) → worthy c ≡ sum_by (worth_by g worthy) (backing g.tickets c)
    unfolding worthy backing
    worthy-step c = grind (arith, nat_tests, sum_by-same_of, named, worthy, Each-filter, worth-worthy)

    values : (c : NameBytes) → 1 ≤ times c (names_of g) → valued_as (place (names_of g) c) ≡ val g 9 c
    values c known = by (bytes_eq c base) refl
      where
        by : (b : Bool) → bytes_eq c base ≡ b → valued_as (place (names_of g) c) ≡ val g 9 c
        by true e = value_after-base (place (names_of g) c) (place-base g c ∙ e)
            ∙ ap (val g 9) (sym (same_name c base e))
        by false e = named-is c ∙ named-worthy c known e ∙ sym (val-unique g ok.shallow worthy worthy-step c)

    flow-worth_at : (fs : List (List FundingTicket)) → AreTicketed (funds_of g) fs → (f : ℕ) → 1 ≤ times_open f g.flows
        → worth_at fs lit value whole (flow_place g.flows f) ≡ uncapped_tickets g f
    flow-worth_at fs funded f known =
        let lt = flow-place-below f g.flows known in
        let few = ok.few_flows in
        worth_at-value_to (funds_of g) fs lit value whole (flow_place g.flows f) funded (omega arith)
        ∙ value_to-same (routes_of g false g.tickets) lit (flow_place g.flows f)
        ∙ value_to-flow g ok lit held flows held-are whole wholes valued_as values f known

    share-is : (fs : List (List FundingTicket)) (share : ℕ → ℕ) → AreTicketed (funds_of g) fs
        → AreShared fs lit value whole share
        → (i : ℕ) → i < length g.flows
        → option_map (λ (e : NameBytes × OpenFlow). tickets g e.1.number) (slice_get g.flows i) ≡ Some (share i)
    share-is fs share funded shared i lt =
        share-at g i (share i) (worth_at fs lit value whole) ok lt (flow-worth_at fs funded)
        (shared i (let few = ok.few_flows in omega arith))

-- a list that is known place by place
take-parts : {X Y : Type 0} (part : X → Y) (xs : List X) (ys : List Y) (d : Y) → length xs ≤ length ys
    → ((i : ℕ) → i < length xs → option_map part (slice_get xs i) ≡ Some (get_or ys i d))
    → take (length xs) ys ≡ map part xs
take-parts part [] ys d le at = refl
take-parts part (x ∷ xs) [] d le at = absurd (omega arith)
take-parts part (x ∷ xs) (y ∷ ys) d le at =
    ap (λ z. z ∷ take (length xs) ys) (sym (same_Some (part x) y (at 0 (omega arith))))
    ∙ ap (λ zs. part x ∷ zs) (take-parts part xs ys d (omega arith) (λ i lt. at (suc i) (omega arith)))

-- a settled valuation gives the tickets of all flows
tickets_of_all-computed : (g : Graph) (valuation : Valuation) (tickets_of_all : List ℕ) → IsWellFormed g
    → length tickets_of_all ≡ 64
    → IsReady valuation tickets_of_all (backs_of g) (funds_of g) (activity_of g)
    → take (length g.flows) tickets_of_all ≡ ticket_list g
tickets_of_all-computed g valuation tickets_of_all ok long ready =
    let begun = ready.begun in
    take-parts (λ (e : NameBytes × OpenFlow). tickets g e.1.number) g.flows tickets_of_all 0
    (let few = ok.few_flows in omega arith)
    (share-is g ok (flags_of valuation.active.value) (flags_of valuation.awake.value)
    (numbers_of valuation.weights.value)
    (numbers_of valuation.values.value)
    (λ f known. begun.active_is (flow_place g.flows f)
    ∙ activity-at f g.flows known (ok.sound.numbers f)) begun.counted
    ready.awake_is valuation.backing.items begun.backing ready.valued
    valuation.funding.items (numbers_of tickets_of_all)
    begun.funding
    ready.shared)

-- so it is what is kept
pub kept-ready : (g : Graph) (valuation : Valuation) (tickets_of_all : List ℕ) → IsWellFormed g
    → length tickets_of_all ≡ 64
    → IsReady valuation tickets_of_all (backs_of g) (funds_of g) (activity_of g) → IsCurrent valuation tickets_of_all g
kept-ready g valuation tickets_of_all ok long ready =
    record { of_flows = tickets_of_all-computed g valuation tickets_of_all ok long ready; valuation_ready = ready }

-- counted places that are awake have values
values-of : (g : Graph) (valuation : Valuation) (awake : ℕ → Bool) (whole : ℕ → ℕ) → IsWellFormed g
    → HasInputs valuation (backs_of g) (funds_of g) (activity_of g)
    → AreCounted (backs_of g) (funds_of g) awake (flags_of valuation.active.value) whole → AreAwake awake whole
    → HaveValues valuation.backing.items awake whole
values-of g valuation awake whole ok begun counted lit =
    have-values g ok (flags_of valuation.active.value) awake whole (numbers_of valuation.values.value)
    (λ f known. begun.active_is (flow_place g.flows f) ∙ activity-at f g.flows known (ok.sound.numbers f)) counted lit
    valuation.backing.items (numbers_of valuation.ranks.value) begun.backing begun.ranked

-- the same of what is lent
pub values-there : (g : Graph) (valuation : Valuation) (awake active : List Bool) (weights : List ℕ)
    (bs : List (List FundingTicket))
    (lit : List Bool) (ws : List ℕ) → IsWellFormed g → HasInputs valuation (backs_of g) (funds_of g) (activity_of g)
    → AreCounted (backs_of g) (funds_of g) (flags_of awake) (flags_of active) (numbers_of weights)
    → AreAwake (flags_of awake) (numbers_of weights) → active ≡ valuation.active.value → bs ≡ valuation.backing.items
    → lit ≡ awake
    → ws ≡ weights → HaveValues bs (flags_of lit) (numbers_of ws)
values-there g valuation awake active weights bs lit ws ok begun counted on same funding_tickets flags numbers =
    subst (λ (ss : List (List FundingTicket)). HaveValues ss (flags_of lit) (numbers_of ws)) (sym funding_tickets)
    (subst (λ (fs : List Bool). HaveValues valuation.backing.items (flags_of fs) (numbers_of ws)) (sym flags)
    (subst (λ (ns : List ℕ). HaveValues valuation.backing.items (flags_of awake) (numbers_of ns)) (sym numbers)
    (values-of g valuation (flags_of awake) (numbers_of weights) ok begun
    (subst (λ (fs : List Bool). AreCounted (backs_of g) (funds_of g) (flags_of awake) (flags_of fs)
    (numbers_of weights)) same counted) on)))
