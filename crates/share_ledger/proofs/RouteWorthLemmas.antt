-- Sums over the routes of the tickets give the values and the worths of the definitions.
use Rattle.std.proofs.Common.{◌≡◌, ◌≤◌, ◌<◌, ◌+◌, ◌*◌, ◌/◌, ◌^◌, ℕ, zero, suc, Bool, true, false, cond, ◌&&◌}
use Rattle.std.proofs.Common.{List, [], ◌∷◌, sum_by, length, bytes_eq, nat_eq, refl, sym, ap, ◌∙◌, arith}
use Rattle.std.specs.List.{list_any}
use Rattle.std.proofs.lemmas.List.Sums.{sum_by-cons}
use Rattle.std.proofs.lemmas.Bool.Decides.{nat_tests}
use Rattle.std.proofs.lemmas.Nat.{mul-le}
use Rattle.share_model.specs.declared.funding.Holder.{Holder}
use Rattle.share_model.specs.declared.funding.Holder.TheVariants.{Nobody, Currency, Flow}
use Rattle.share_model.specs.declared.funding.Ticket.{Ticket}
use Rattle.share_model.specs.declared.funding.OpenFlow.{OpenFlow}
use Rattle.share_model.specs.funding.Graph.{NameBytes, base, Graph, holder_is_currency, holder_is_flow, funding}
use Rattle.share_model.specs.funding.Graph.{denominated_in, backing, is_active_flow, is_active_holder, act, is_active}
use Rattle.share_model.specs.funding.Graph.{active}
use Rattle.share_model.specs.funding.Graph.{worth_by, val, worth}
use Rattle.share_model.specs.lists.Each.{Each}
use Rattle.share_model.proofs.lemmas.lists.FirstItemLemmas.{each_map}
use Rattle.share_model.specs.funding.WellFormed.{names_of, times, times_open, IsHolderKnown, IsWellFormed}
use Rattle.share_model.proofs.lemmas.lists.SumLemmas.{sum_by-filter, sum_by-le_of, sum_by-same_of}
use Rattle.share_model.proofs.lemmas.funding.ShareLemmas.{active_amount, active-is, active-within, worths-within}
use Rattle.share_model.proofs.lemmas.funding.ShareLemmas.{vals-within}
use Rattle.share_ledger.specs.declared.routes.Route.{Route}
use Rattle.share_ledger.specs.Places.{place}
use Rattle.share_ledger.specs.Routes.{flow_place, holder_place, route_of, is_kind, routes_of, weight_from}
use Rattle.share_ledger.specs.Routes.{carried_by, value_to, value_after}
use Rattle.share_ledger.proofs.PlaceLemmas.{place-below, place-same, place-base, sum_by-map, IsPlaced, placed}

-- Two sums that together make up one
two-sum : (P : Ticket → Type 0) (v w u : Ticket → ℕ) (ts : List Ticket) → Each P ts
    → ((t : Ticket) → P t → v t + w t ≡ u t) → sum_by v ts + sum_by w ts ≡ sum_by u ts
two-sum P v w u [] each same = refl
two-sum P v w u (t ∷ ts) each same = grind (arith, nat_tests, sum_by-cons, two-sum P v w u ts each.1 same)

cond_nothing : (b : Bool) → ◌≡◌ {A = ℕ} (cond b 0 0) 0
cond_nothing true = refl
cond_nothing false = refl

-- two conditions, one after the other
pub cond_and : (a b : Bool) (n : ℕ) → cond (a && b) n 0 ≡ cond a (cond b n 0) 0
cond_and true b n = refl
cond_and false b n = refl

-- places of flows
pub flow-place-same : (f k : ℕ) (es : List (NameBytes × OpenFlow)) → 1 ≤ times_open f es
    → nat_eq (flow_place es f) (flow_place es k) ≡ nat_eq f k
unfolding flow_place
flow-place-same f k [] known = absurd (omega arith)
flow-place-same f k (e ∷ es) known = grind (arith, nat_tests, sum_by-cons, flow-place-same f k es)

pub flow-place-below : (f : ℕ) (es : List (NameBytes × OpenFlow)) → 1 ≤ times_open f es → flow_place es f < length es
unfolding flow_place
flow-place-below f [] known = absurd (omega arith)
flow-place-below f (e ∷ es) known = grind (arith, nat_tests, sum_by-cons, flow-place-below f es)

module _ (g : Graph) where
  pub sum-routes : (F : Route → ℕ) (b : Bool)
      → sum_by F (routes_of g b g.tickets)
      ≡ sum_by (λ (t : Ticket). cond (is_kind b t.holder) (F (route_of g t)) 0) g.tickets
  unfolding routes_of
  sum-routes F b = grind (arith, nat_tests, sum_by-map, sum_by-filter)

  pub below : IsWellFormed g → (c : NameBytes) → 1 ≤ times c (names_of g) → place (names_of g) c < 65
  below ok c known = let under = place-below c (names_of g) known in let few = ok.few_currencies in omega arith

-- the active places by the routes, by the places of holders
abbrev pub lead : Graph → (ℕ → Bool) → Holder → Bool
lead g held Nobody = false
lead g held (Currency d) = held (place (names_of g) d)
lead g held (Flow f) = is_active_flow g f

module _ (g : Graph) (ok : IsWellFormed g) (lit held : ℕ → Bool)
    (flows : (f : ℕ) → 1 ≤ times_open f g.flows → lit (flow_place g.flows f) ≡ is_active_flow g f) where
  pub weight_from-is : (c : NameBytes) → 1 ≤ times c (names_of g)
      → weight_from (routes_of g true g.tickets) held (place (names_of g) c)
      + weight_from (routes_of g false g.tickets) lit (place (names_of g) c)
      ≡ sum_by (λ (t : Ticket). cond (bytes_eq c t.denomination) (cond (lead g held t.holder) t.amount 0) 0) g.tickets
  unfolding weight_from
  weight_from-is c known =
      ap (λ n. n + weight_from (routes_of g false g.tickets) lit (place (names_of g) c))
      (sum-routes g (λ (r : Route). cond (nat_eq (place (names_of g) c) r.from && held r.to) r.amount 0) true)
      ∙ ap (λ n. sum_by (part true held) g.tickets + n)
      (sum-routes g (λ (r : Route). cond (nat_eq (place (names_of g) c) r.from && lit r.to) r.amount 0) false)
      ∙ two-sum (IsPlaced g) (part true held) (part false lit)
      (λ (t : Ticket). cond (bytes_eq c t.denomination) (cond (lead g held t.holder) t.amount 0) 0) g.tickets
      (placed g ok)
      (λ t ok. ap
      (λ b. cond (is_kind true t.holder) (cond (b && held (holder_place g t.holder)) t.amount 0) 0
      + cond (is_kind false t.holder) (cond (b && lit (holder_place g t.holder)) t.amount 0) 0)
      (place-same c t.denomination (names_of g) known)
      ∙ by (bytes_eq c t.denomination) t.amount t.holder ok.holder_known)
    where
      part : Bool → (ℕ → Bool) → Ticket → ℕ
      part b flag t =
          cond (is_kind b t.holder)
          (cond (nat_eq (place (names_of g) c) (place (names_of g) t.denomination) && flag (holder_place g t.holder))
          t.amount 0) 0

      zero_add : (n : ℕ) → 0 + n ≡ n
      zero_add n = omega arith

      add_zero : (n : ℕ) → n + 0 ≡ n
      add_zero n = omega arith

      by : (b : Bool) (n : ℕ) (o : Holder) → IsHolderKnown g o
          → cond (is_kind true o) (cond (b && held (holder_place g o)) n 0) 0
          + cond (is_kind false o) (cond (b && lit (holder_place g o)) n 0) 0
          ≡ cond b (cond (lead g held o) n 0) 0
      by b n Nobody there = sym (cond_nothing b)
      by b n (Currency d) there = add_zero _ ∙ cond_and b (held (place (names_of g) d)) n
      by b n (Flow f) there =
          zero_add _ ∙ ap (λ a. cond (b && a) n 0) (flows f there) ∙ cond_and b (is_active_flow g f) n

-- Anything that says which flows and currencies are active gives the amounts and the worths.
module _ (g : Graph) (ok : IsWellFormed g) (lit held : ℕ → Bool)
    (flows : (f : ℕ) → 1 ≤ times_open f g.flows → lit (flow_place g.flows f) ≡ is_active_flow g f)
    (held-are : (c : NameBytes) → 1 ≤ times c (names_of g)
    → held (place (names_of g) c) ≡ list_any (act g 8) (denominated_in g.tickets c)) where
  -- Amounts
  pub whole-is : (whole : ℕ → ℕ)
      → ((p : ℕ) → p < 65
      → whole p ≡ weight_from (routes_of g true g.tickets) held p + weight_from (routes_of g false g.tickets) lit p)
      → (c : NameBytes) → 1 ≤ times c (names_of g) → whole (place (names_of g) c) ≡ active g c
  unfolding denominated_in is_active act
  whole-is whole sum c known =
      sum (place (names_of g) c) (below g ok c known) ∙ weight_from-is g ok lit held flows c known
      ∙ sum_by-same_of (IsPlaced g)
      (λ (t : Ticket). cond (bytes_eq c t.denomination) (cond (lead g held t.holder) t.amount 0) 0)
      (λ (t : Ticket). cond (bytes_eq c t.denomination) (active_amount g t) 0) g.tickets (placed g ok)
      (λ t ok. ap (λ b. cond (bytes_eq c t.denomination) (cond b t.amount 0) 0) (by t.holder ok.holder_known))
      ∙ sym (sum_by-filter (active_amount g) (λ (t : Ticket). bytes_eq c t.denomination) g.tickets)
      ∙ sym (active-is g c)
    where
      by : (o : Holder) → IsHolderKnown g o → lead g held o ≡ is_active_holder g (act g 8) o
      by Nobody there = refl
      by (Currency d) there = held-are d there
      by (Flow f) there = refl

  -- Worths and values
  module _ (whole : ℕ → ℕ)
      (wholes : (c : NameBytes) → 1 ≤ times c (names_of g) → whole (place (names_of g) c) ≡ active g c) where
    -- the worth of the ticket if it were active
    abbrev weight : (NameBytes → ℕ) → Ticket → ℕ
    weight w t = cond (bytes_eq t.denomination base) t.amount (w t.denomination * t.amount / active g t.denomination)

    carried_by-is : (v : ℕ → ℕ) (w : NameBytes → ℕ)
        → ((c : NameBytes) → 1 ≤ times c (names_of g) → v (place (names_of g) c) ≡ w c) → (t : Ticket) → IsPlaced g t
        → carried_by v whole (route_of g t) ≡ weight w t
    carried_by-is v w value t ok =
        let p = place (names_of g) t.denomination in
        ap (λ b. cond b t.amount (v p * t.amount / whole p)) (place-base g t.denomination)
        ∙ ap (λ n. cond (bytes_eq t.denomination base) t.amount (n * t.amount / whole p))
        (value t.denomination ok.denomination_known)
        ∙ ap (λ n. cond (bytes_eq t.denomination base) t.amount (w t.denomination * t.amount / n))
        (wholes t.denomination ok.denomination_known)

    pub value_to-currency : (v : ℕ → ℕ) (w : NameBytes → ℕ)
        → ((c : NameBytes) → 1 ≤ times c (names_of g) → v (place (names_of g) c) ≡ w c)
        → (c : NameBytes) → 1 ≤ times c (names_of g)
        → value_to (routes_of g true g.tickets) held (carried_by v whole) (place (names_of g) c)
        ≡ sum_by (worth_by g w) (backing g.tickets c)
    unfolding value_to backing worth_by is_active act
    value_to-currency v w value c known =
        sum-routes g
        (λ (r : Route). cond (nat_eq (place (names_of g) c) r.to && held r.to) (carried_by v whole r) 0) true
        ∙ sum_by-same_of (IsPlaced g)
        (λ (t : Ticket). cond (is_kind true t.holder)
        (cond (nat_eq (place (names_of g) c) (holder_place g t.holder) && held (holder_place g t.holder))
        (carried_by v whole (route_of g t)) 0) 0)
        (λ (t : Ticket). cond (holder_is_currency c t.holder) (worth_by g w t) 0) g.tickets (placed g ok)
        (λ t ok. ap
        (λ n. cond (is_kind true t.holder)
        (cond (nat_eq (place (names_of g) c) (holder_place g t.holder) && held (holder_place g t.holder)) n 0) 0)
        (carried_by-is v w value t ok)
        ∙ by (weight w t) t.holder ok.holder_known)
        ∙ sym (sum_by-filter (worth_by g w) (λ (t : Ticket). holder_is_currency c t.holder) g.tickets)
      where
        by : (n : ℕ) (o : Holder) → IsHolderKnown g o
            → cond (is_kind true o) (cond (nat_eq (place (names_of g) c) (holder_place g o) && held (holder_place g
            o)) n 0)
            0
            ≡ cond (holder_is_currency c o) (cond (is_active_holder g (act g 8) o) n 0) 0
        by n Nobody there = refl
        by n (Flow f) there = refl
        by n (Currency d) there =
            ap (λ b. cond (b && held (place (names_of g) d)) n 0) (place-same c d (names_of g) known)
            ∙ ap (λ b. cond (bytes_eq c d && b) n 0) (held-are d there)
            ∙ cond_and (bytes_eq c d) (list_any (act g 8) (denominated_in g.tickets d)) n

    pub value_after-is : (n : ℕ) (c : NameBytes) → 1 ≤ times c (names_of g)
        → value_after (routes_of g true g.tickets) held whole n (place (names_of g) c) ≡ val g n c
    unfolding value_after val
    value_after-is zero c known = refl
    value_after-is (suc n) c known =
        value_to-currency (value_after (routes_of g true g.tickets) held whole n) (val g n) (value_after-is n) c known

    pub value_to-flow : (v : ℕ → ℕ)
        → ((c : NameBytes) → 1 ≤ times c (names_of g) → v (place (names_of g) c) ≡ val g 9 c)
        → (f : ℕ) → 1 ≤ times_open f g.flows
        → value_to (routes_of g false g.tickets) lit (carried_by v whole) (flow_place g.flows f)
        ≡ sum_by (worth g 9) (funding g.tickets f)
    unfolding value_to funding worth worth_by is_active act
    value_to-flow v value f known =
        sum-routes g
        (λ (r : Route). cond (nat_eq (flow_place g.flows f) r.to && lit r.to) (carried_by v whole r) 0) false
        ∙ sum_by-same_of (IsPlaced g)
        (λ (t : Ticket). cond (is_kind false t.holder)
        (cond (nat_eq (flow_place g.flows f) (holder_place g t.holder) && lit (holder_place g t.holder))
        (carried_by v whole (route_of g t)) 0) 0)
        (λ (t : Ticket). cond (holder_is_flow f t.holder) (worth_by g (val g 9) t) 0) g.tickets (placed g ok)
        (λ t ok. ap
        (λ n. cond (is_kind false t.holder)
        (cond (nat_eq (flow_place g.flows f) (holder_place g t.holder) && lit (holder_place g t.holder)) n 0) 0)
        (carried_by-is v (val g 9) value t ok)
        ∙ by (weight (val g 9) t) t.holder ok.holder_known)
        ∙ sym (sum_by-filter (worth_by g (val g 9)) (λ (t : Ticket). holder_is_flow f t.holder) g.tickets)
      where
        by : (n : ℕ) (o : Holder) → IsHolderKnown g o
            → cond (is_kind false o) (cond (nat_eq (flow_place g.flows f) (holder_place g o) && lit (holder_place g
            o)) n 0)
            0
            ≡ cond (holder_is_flow f o) (cond (is_active_holder g (act g 8) o) n 0) 0
        by n Nobody there = refl
        by n (Currency d) there = refl
        by n (Flow k) there =
            ap (λ b. cond (b && lit (flow_place g.flows k)) n 0) (flow-place-same f k g.flows known)
            ∙ ap (λ b. cond (nat_eq f k && b) n 0) (flows k there)
            ∙ cond_and (nat_eq f k) (is_active_flow g k) n

    -- the worth of one place is within that of all tickets
    value_to-within : (v : ℕ → ℕ) (w : NameBytes → ℕ)
        → ((c : NameBytes) → 1 ≤ times c (names_of g) → v (place (names_of g) c) ≡ w c) → (p : ℕ)
        → value_to (routes_of g true g.tickets) held (carried_by v whole) p ≤ sum_by (worth_by g w) g.tickets
    unfolding value_to worth_by is_active act
    value_to-within v w value p =
        let same = sum-routes g (λ (r : Route). cond (nat_eq p r.to && held r.to) (carried_by v whole r) 0) true in
        let less =
        sum_by-le_of (IsPlaced g)
        (λ (t : Ticket). cond (is_kind true t.holder)
        (cond (nat_eq p (holder_place g t.holder) && held (holder_place g t.holder)) (carried_by v whole (route_of g
        t)) 0) 0)
        (worth_by g w) g.tickets (placed g ok)
        (λ t ok. rw (carried_by-is v w value t ok) (by (weight w t) t.holder ok.holder_known)) in
        omega arith
      where
        at_most : (a b : Bool) (n : ℕ) → cond (a && b) n 0 ≤ cond b n 0
        at_most true b n = omega arith
        at_most false true n = omega arith
        at_most false false n = omega arith

        by : (n : ℕ) (o : Holder) → IsHolderKnown g o
            → cond (is_kind true o) (cond (nat_eq p (holder_place g o) && held (holder_place g o)) n 0) 0
            ≤ cond (is_active_holder g (act g 8) o) n 0
        by n Nobody there = omega arith
        by n (Flow f) there = omega arith
        by n (Currency d) there =
            rw (held-are d there) (at_most (nat_eq p (place (names_of g) d)) (list_any (act g 8)
            (denominated_in g.tickets d)) n)

    pub value_after-bound : (n p : ℕ) → n ≤ 9 → p < 65 → value_after (routes_of g true g.tickets) held whole n p
        ≤ 9 * 2 ^ 30
    unfolding value_after
    value_after-bound zero p few lt = omega arith
    value_after-bound (suc n) p few lt =
        let here = value_to-within (value_after (routes_of g true g.tickets) held whole n) (val g n) (value_after-is n)
        p in
        let worths = worths-within g (val g n) ok.sound in
        let values = vals-within g n ok.sound in
        let some =
        active-within g base
        (each_map _ (λ (t : Ticket). t.amount ≤ 2 ^ 20) (λ t e. e.1) g.tickets ok.amounts) ok.few_tickets in
        let product = mul-le n (active g base) 8 (2 ^ 30) (omega arith) some in
        omega arith
