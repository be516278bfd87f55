-- The routes of the tickets one by one, and the places of flows.
use Rattle.std.proofs.Common.{◌≡◌, ◌≤◌, ◌<◌, ◌+◌, ◌^◌, ℕ, zero, suc, Bool, true, false, cond, ◌&&◌, ◌||◌, min, List, []}
use Rattle.std.proofs.Common.{◌∷◌, ◌++◌, map, filter, take, set, get_or, length, nat_eq, Some, option_map}
use Rattle.std.proofs.Common.{slice_get, refl, sym, ap, ◌∙◌, arith}
use Rattle.std.specs.List.{list_any}
use Rattle.std.proofs.Math.Seq.{take-suc-set}
use Rattle.std.proofs.lemmas.List.{append-nil}
use Rattle.std.proofs.lemmas.List.Sums.{sum_by-cons}
use Rattle.std.proofs.lemmas.Bool.Decides.{nat_tests}
use Rattle.share_model.specs.declared.funding.Ticket.{Ticket}
use Rattle.share_model.specs.declared.funding.OpenFlow.{OpenFlow}
use Rattle.share_model.specs.funding.Graph.{NameBytes, Graph, tickets}
use Rattle.share_model.specs.funding.Changes.{is_open_as}
use Rattle.share_model.specs.funding.Laws.{uncapped_tickets}
use Rattle.share_model.specs.funding.WellFormed.{times_open, IsWellFormed}
use Rattle.share_model.specs.lists.Each.{Each}
use Rattle.share_ledger.specs.declared.routes.Route.{Route}
use Rattle.share_ledger.specs.Routes.{flow_place, route_of, is_kind, routes_of, IsRouteWithin, weight_from}
use Rattle.share_ledger.proofs.FirstItemLemmas.{IsFirstAt}
use Rattle.share_ledger.proofs.ListLemmas.{sum_by-bound}
use Rattle.share_ledger.proofs.PlaceLemmas.{place-below, IsPlaced, placed}
use Rattle.share_ledger.proofs.RouteWorthLemmas.{flow-place-below}

-- One ticket more
pub routes-cons : (g : Graph) (b : Bool) (t : Ticket) (ts : List Ticket)
    → routes_of g b (t ∷ ts) ≡ cond (is_kind b t.holder) (route_of g t ∷ []) [] ++ routes_of g b ts
unfolding routes_of
routes-cons g b t ts = grind (arith, nat_tests)

pub routes-append : (g : Graph) (b : Bool) (ts : List Ticket) (t : Ticket)
    → routes_of g b (ts ++ t ∷ []) ≡ routes_of g b ts ++ cond (is_kind b t.holder) (route_of g t ∷ []) []
unfolding routes_of
routes-append g b [] t = grind (arith, nat_tests, routes-cons)
routes-append g b (x ∷ ts) t = grind (arith, nat_tests, routes-cons, routes-append g b ts t)

take-more : (ts : List Ticket) (i : ℕ) (t : Ticket) → i < length ts → t ≡ get_or ts i t
    → take (suc i) ts ≡ take i ts ++ t ∷ []
take-more [] i t lt at = absurd (omega arith)
take-more (x ∷ ts) zero t lt at = ap (λ y. y ∷ []) (sym at)
take-more (x ∷ ts) (suc i) t lt at = ap (λ l. x ∷ l) (take-more ts i t (omega arith) at)

routes-step : (g : Graph) (b : Bool) (ts : List Ticket) (i : ℕ) (t : Ticket) → i < length ts → t ≡ get_or ts i t
    → routes_of g b (take (i + 1) ts) ≡ routes_of g b (take i ts) ++ cond (is_kind b t.holder) (route_of g t ∷ []) []
routes-step g b ts i t lt at = grind (arith, nat_tests, take-more ts i t lt at, routes-append g b (take i ts) t)

pub listed-more : (g : Graph) (b : Bool) (ts : List Ticket) (rs : List Route) (i n : ℕ) (t : Ticket) (r : Route)
    → i < length ts → t ≡ get_or ts i t → is_kind b t.holder ≡ true → r ≡ route_of g t → n < length rs
    → take n rs ≡ routes_of g b (take i ts) → take (n + 1) (set rs n r) ≡ routes_of g b (take (i + 1) ts)
listed-more g b ts rs i n t r lt at kind same inside so_far =
    grind (arith, nat_tests, take-suc-set rs n r inside, routes-step g b ts i t lt at)

pub listed-skip : (g : Graph) (b : Bool) (ts : List Ticket) (rs : List Route) (i n : ℕ) (t : Ticket)
    → i < length ts → t ≡ get_or ts i t → is_kind b t.holder ≡ false
    → take n rs ≡ routes_of g b (take i ts) → take n rs ≡ routes_of g b (take (i + 1) ts)
listed-skip g b ts rs i n t lt at kind so_far =
    grind (arith, nat_tests, append-nil (routes_of g b (take i ts)), routes-step g b ts i t lt at)

-- Routes are within the places, and few
pub route-within : (g : Graph) → IsWellFormed g → (t : Ticket) → IsPlaced g t → IsRouteWithin (route_of g t)
route-within g ok t at = grind (arith, nat_tests, place-below, flow-place-below)

pub routes-within : (g : Graph) (b : Bool) → IsWellFormed g → Each IsRouteWithin (routes_of g b g.tickets)
unfolding routes_of
routes-within g b ok = all g.tickets (placed g ok)
  where
    all : (ts : List Ticket) → Each (IsPlaced g) ts → Each IsRouteWithin (routes_of g b ts)
    all [] each = tt
    all (t ∷ ts) each = by (is_kind b t.holder) (all ts each.1)
      where
        by : (k : Bool) → Each IsRouteWithin (routes_of g b ts)
            → Each IsRouteWithin (map (route_of g) (cond k (t ∷ filter (λ (t : Ticket). is_kind b t.holder) ts)
            (filter (λ (t : Ticket). is_kind b t.holder) ts)))
        by true rest = (route-within g ok t each.0, rest)
        by false rest = rest

pub routes-few : (g : Graph) (b : Bool) (ts : List Ticket) → length (routes_of g b ts) ≤ length ts
unfolding routes_of
routes-few g b [] = omega arith
routes-few g b (t ∷ ts) = grind (arith, nat_tests, routes-few g b ts)

pub weight_from-bound : (rs : List Route) (flag : ℕ → Bool) (p : ℕ) → Each IsRouteWithin rs → length rs ≤ 1024
    → weight_from rs flag p ≤ 2 ^ 30
unfolding weight_from
weight_from-bound rs flag p within few =
    let all = sum_by-bound IsRouteWithin (λ (r : Route). cond (nat_eq p r.from && flag r.to) r.amount 0) (2 ^ 20) rs
    within
    (λ r v. by (nat_eq p r.from && flag r.to) r v.small) in
    omega arith
  where
    by : (b : Bool) (r : Route) → r.amount ≤ 2 ^ 20 → cond b r.amount 0 ≤ 2 ^ 20
    by true r small = small
    by false r small = omega arith

-- Places of flows
pub flow-place-first : (f : ℕ) (es : List (NameBytes × OpenFlow)) (i : ℕ) → IsFirstAt (is_open_as f) es i
    → i ≡ flow_place es f
unfolding flow_place
flow-place-first f [] i first = absurd first
flow-place-first f (e ∷ es) zero first = sym (ap (λ b. cond b 0 (suc (flow_place es f))) first)
flow-place-first f (e ∷ es) (suc i) first =
    ap suc (flow-place-first f es i first.1) ∙ sym (ap (λ b. cond b 0 (suc (flow_place es f))) first.0)

pub unopened : (f : ℕ) (es : List (NameBytes × OpenFlow)) → Each (λ (e : NameBytes × OpenFlow). is_open_as f e
    ≡ false) es
    → times_open f es ≡ 0
unopened f [] none = refl
unopened f (e ∷ es) none =
    let rest = unopened f es none.1 in
    let here = ap {B = ℕ} (λ b. cond b 1 0) (turned e.1.number none.0) in
    sum_by-cons (λ (x : NameBytes × OpenFlow). cond (nat_eq x.1.number f) 1 0) e es ∙ omega arith
  where
    turned : (n : ℕ) → nat_eq f n ≡ false → nat_eq n f ≡ false
    turned n o = grind (arith, nat_tests)

idle-none : (f : ℕ) (es : List (NameBytes × OpenFlow)) → times_open f es ≡ 0
    → list_any (λ (e : NameBytes × OpenFlow). nat_eq f e.1.number && e.1.active) es ≡ false
idle-none f [] none = refl
idle-none f (e ∷ es) none = by (nat_eq f e.1.number) refl (idle-none f es)
  where
    more : times_open f (e ∷ es) ≡ cond (nat_eq e.1.number f) 1 0 + times_open f es
    more = sum_by-cons (λ (x : NameBytes × OpenFlow). cond (nat_eq x.1.number f) 1 0) e es

    turned : nat_eq f e.1.number ≡ true → nat_eq e.1.number f ≡ true
    turned o = grind (arith, nat_tests)

    by : (a : Bool) → nat_eq f e.1.number ≡ a
        → (times_open f es ≡ 0
        → list_any (λ (e : NameBytes × OpenFlow). nat_eq f e.1.number && e.1.active) es ≡ false)
        → ((a && e.1.active) || list_any (λ (e : NameBytes × OpenFlow). nat_eq f e.1.number && e.1.active) es) ≡ false
    by true x rest = let here = ap {B = ℕ} (λ b. cond b 1 0) (turned x) in absurd (omega (arith, more))
    by false x rest = rest (omega (arith, more))

pub activity-at : (f : ℕ) (es : List (NameBytes × OpenFlow)) → 1 ≤ times_open f es → times_open f es ≤ 1
    → get_or (map (λ (e : NameBytes × OpenFlow). e.1.active) es) (flow_place es f) false
    ≡ list_any (λ (e : NameBytes × OpenFlow). nat_eq f e.1.number && e.1.active) es
unfolding flow_place
activity-at f [] known once = absurd (omega arith)
activity-at f (e ∷ es) known once = by (nat_eq f e.1.number) refl (activity-at f es)
  where
    more : times_open f (e ∷ es) ≡ cond (nat_eq e.1.number f) 1 0 + times_open f es
    more = sum_by-cons (λ (x : NameBytes × OpenFlow). cond (nat_eq x.1.number f) 1 0) e es

    turned : (b : Bool) → nat_eq f e.1.number ≡ b → nat_eq e.1.number f ≡ b
    turned true o = grind (arith, nat_tests)
    turned false o = grind (arith, nat_tests)

    alone : (b : Bool) → b ≡ (b || false)
    alone true = refl
    alone false = refl

    by : (a : Bool) → nat_eq f e.1.number ≡ a
        → (1 ≤ times_open f es → times_open f es ≤ 1
        → get_or (map (λ (e : NameBytes × OpenFlow). e.1.active) es) (flow_place es f) false
        ≡ list_any (λ (e : NameBytes × OpenFlow). nat_eq f e.1.number && e.1.active) es)
        → get_or (e.1.active ∷ map (λ (e : NameBytes
        × OpenFlow). e.1.active) es) (cond a 0 (suc (flow_place es f))) false
        ≡ ((a && e.1.active) || list_any (λ (e : NameBytes × OpenFlow). nat_eq f e.1.number && e.1.active) es)
    by true x rest =
        let here = ap {B = ℕ} (λ b. cond b 1 0) (turned true x) in
        alone e.1.active ∙ ap (λ b. e.1.active || b) (sym (idle-none f es (omega (arith, more))))
    by false x rest =
        let here = ap {B = ℕ} (λ b. cond b 1 0) (turned false x) in
        rest (omega (arith, more)) (omega (arith, more))

-- each place is that of the flow that stands there
at-place : (share : ℕ → ℕ) (es : List (NameBytes × OpenFlow)) (i k : ℕ) (held : ℕ → ℕ) → i < length es
    → ((n : ℕ) → times_open n es ≤ 1)
    → ((f : ℕ) → 1 ≤ times_open f es → held (k + flow_place es f) ≡ share f)
    → option_map (λ (e : NameBytes × OpenFlow). share e.1.number) (slice_get es i) ≡ Some (held (k + i))
unfolding flow_place
at-place share [] i k held lt once same = absurd (omega arith)
at-place share (e ∷ es) zero k held lt once same =
    let own = same e.1.number (omega (arith, more)) in
    ap Some (sym (ap held (ap (λ n. k + n) (sym here)) ∙ own))
  where
    self : nat_eq e.1.number e.1.number ≡ true
    self = grind (arith, nat_tests)

    more : times_open e.1.number (e ∷ es) ≡ 1 + times_open e.1.number es
    more =
        sum_by-cons (λ (x : NameBytes × OpenFlow). cond (nat_eq x.1.number e.1.number) 1 0) e es
        ∙ ap (λ b. cond b 1 0 + times_open e.1.number es) self

    here : cond (nat_eq e.1.number e.1.number) 0 (suc (flow_place es e.1.number)) ≡ 0
    here = ap (λ b. cond b 0 (suc (flow_place es e.1.number))) self
at-place share (e ∷ es) (suc i) k held lt once same =
    at-place share es i (k + 1) held (omega arith) (λ n. let all = once n in omega (arith, more n))
    (λ f known. ap held (sum k (flow_place es f) ∙ ap (λ n. k + n) (sym (behind f known)))
    ∙ same f (omega (arith, more f)))
    ∙ ap (λ n. Some (held n)) (sum k i)
  where
    more : (n : ℕ) → times_open n (e ∷ es) ≡ cond (nat_eq e.1.number n) 1 0 + times_open n es
    more n = sum_by-cons (λ (x : NameBytes × OpenFlow). cond (nat_eq x.1.number n) 1 0) e es

    sum : (a b : ℕ) → a + 1 + b ≡ a + suc b
    sum a b = omega arith

    turned : (f : ℕ) → nat_eq f e.1.number ≡ true → nat_eq e.1.number f ≡ true
    turned f o = grind (arith, nat_tests)

    behind : (f : ℕ) → 1 ≤ times_open f es
        → cond (nat_eq f e.1.number) 0 (suc (flow_place es f)) ≡ suc (flow_place es f)
    behind f known = grind (arith, nat_tests, turned, more)

pub share-at : (g : Graph) (i n : ℕ) (held : ℕ → ℕ) → IsWellFormed g → i < length g.flows
    → ((f : ℕ) → 1 ≤ times_open f g.flows → held (flow_place g.flows f) ≡ uncapped_tickets g f) → n
    ≡ min (held i) (2 ^ 20)
    → option_map (λ (e : NameBytes × OpenFlow). tickets g e.1.number) (slice_get g.flows i) ≡ Some n
unfolding tickets
share-at g i n held ok lt same capped =
    at-place (tickets g) g.flows i 0 (λ p. min (2 ^ 20) (held p)) lt ok.sound.numbers
    (λ f known. ap (λ p. min (2 ^ 20) (held p)) (zero_add (flow_place g.flows f)) ∙ ap (min (2 ^ 20)) (same f known))
    ∙ ap (λ p. Some (min (2 ^ 20) (held p))) (zero_add i) ∙ ap Some (min_comm (held i) ∙ sym capped)
  where
    zero_add : (m : ℕ) → 0 + m ≡ m
    zero_add m = omega arith

    min_comm : (m : ℕ) → min (2 ^ 20) m ≡ min m (2 ^ 20)
    min_comm m = omega arith
