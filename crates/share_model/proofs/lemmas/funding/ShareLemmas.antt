-- The tickets of all flows together are at most the active amount of `base`, and no value is large.
use Rattle.std.proofs.Common.{◌≡◌, ℕ, ◌+◌, ◌*◌, ◌/◌, ◌^◌, ◌≤◌, zero, suc, Bool, true, false, cond, min, List, [], ◌∷◌}
use Rattle.std.proofs.Common.{filter, sum_by, count_by, length, bytes_eq, refl, sym, ap, subst, ◌∙◌, arith, true≢false}
use Rattle.std.proofs.lemmas.List.Sums.{sum_by-cons, sum_by-le-sum_by}
use Rattle.std.proofs.Math.Nat.{div-mul-le_self, div-zero, le_of_mul-le-mul_right, mul-le-mul_right, le-div_iff_mul-le}
use Rattle.share_model.specs.declared.funding.Holder.{Holder}
use Rattle.share_model.specs.declared.funding.Holder.TheVariants.{Nobody, Currency, Flow}
use Rattle.share_model.specs.declared.funding.Ticket.{Ticket}
use Rattle.share_model.specs.declared.funding.OpenFlow.{OpenFlow}
use Rattle.share_model.specs.funding.Graph.{NameBytes, base, Graph, holder_is_currency, holder_is_flow}
use Rattle.share_model.specs.funding.Graph.{denominated_in}
use Rattle.share_model.specs.funding.Graph.{backing, funding, is_active, active, worth_by, val, worth, tickets}
use Rattle.share_model.specs.lists.Each.{Each}
use Rattle.share_model.specs.funding.WellFormed.{names_of, times, IsWellNamed}
use Rattle.share_model.specs.funding.Laws.{uncapped_tickets, SharesAreWithin}
use Rattle.share_model.proofs.lemmas.lists.FirstItemLemmas.{each_map}
use Rattle.share_model.proofs.lemmas.lists.SumLemmas.{same_name, sum_by-filter, sum_by-le_of, each-term, Each-all}
use Rattle.share_model.proofs.lemmas.lists.SumLemmas.{Each-filter}
use Rattle.share_model.proofs.lemmas.lists.SumLemmas.{count_by-none, count_by-zero, part, parts-cover, parts-apart}

-- the amount of a ticket if it is active
abbrev pub active_amount : Graph → Ticket → ℕ
active_amount g t = cond (is_active g t) t.amount 0

pub active-is : (g : Graph) (c : NameBytes) → active g c ≡ sum_by (active_amount g) (denominated_in g.tickets c)
unfolding active
active-is g c = sum_by-filter (λ (t : Ticket). t.amount) (is_active g) (denominated_in g.tickets c)

-- the greatest worth of an active ticket, by its denomination
worth-of_base : (g : Graph) (value : NameBytes → ℕ) (t : Ticket) → bytes_eq base t.denomination ≡ true
    → worth_by g value t ≤ active_amount g t
unfolding worth_by
worth-of_base g value t e =
    by (is_active g t) (bytes_eq t.denomination base)
    (ap (λ d. bytes_eq d base) (sym (same_name base t.denomination e)))
  where
    by : (a b : Bool) → b ≡ true
        → cond a (cond b t.amount (value t.denomination * t.amount / active g t.denomination)) 0 ≤ cond a t.amount 0
    by false b e = omega arith
    by true false e = absurd (true≢false (sym e))
    by true true e = omega arith

-- worths of tickets of a currency, times its active amount, are within its value times their amounts
worth-of_share : (g : Graph) (value : NameBytes → ℕ) (c : NameBytes) (t : Ticket) → bytes_eq c base ≡ false
    → bytes_eq c t.denomination ≡ true
    → worth_by g value t * active g c ≤ value c * active_amount g t
unfolding worth_by
worth-of_share g value c t other e =
    by (is_active g t) (bytes_eq t.denomination base) t.denomination (sym (same_name c t.denomination e))
    (ap (λ d. bytes_eq d base) (sym (same_name c t.denomination e)) ∙ other)
  where
    floor : (v a n : ℕ) → v * a / n * n ≤ v * a
    floor v a n = div-mul-le_self (v * a) n

    by : (a b : Bool) (d : NameBytes) → d ≡ c → b ≡ false
        → cond a (cond b t.amount (value d * t.amount / active g d)) 0 * active g c ≤ value c * cond a t.amount 0
    by false b d same e = omega arith
    by true true d same e = absurd (true≢false e)
    by true false d same e =
        let P : NameBytes → Type 0 = λ d. value d * t.amount / active g d * active g c ≤ value c * t.amount in
        subst P (sym same) (floor (value c) t.amount (active g c))

shares-within_value : (g : Graph) (value : NameBytes → ℕ) (c : NameBytes) (ts : List Ticket) → bytes_eq c base ≡ false
    → Each (λ (t : Ticket). bytes_eq c t.denomination ≡ true) ts
    → sum_by (worth_by g value) ts * active g c ≤ value c * sum_by (active_amount g) ts
shares-within_value g value c [] other each = omega arith
shares-within_value g value c (t ∷ ts) other each =
    let rest = shares-within_value g value c ts other each.1 in
    let here = worth-of_share g value c t other each.0 in
    let left = ap (λ n. n * active g c) (sum_by-cons (worth_by g value) t ts) in
    let right = ap (λ n. value c * n) (sum_by-cons (active_amount g) t ts) in
    rw (left, right) (omega arith)

-- if nothing of a currency is active, its tickets are worth nothing
idle-worth : (g : Graph) (value : NameBytes → ℕ) (c : NameBytes) (t : Ticket) → active g c ≡ 0 → bytes_eq c base ≡ false
    → bytes_eq c t.denomination ≡ true
    → worth_by g value t ≡ 0
unfolding worth_by
idle-worth g value c t idle other e =
    by (is_active g t) (bytes_eq t.denomination base)
    (ap (λ d. bytes_eq d base) (sym (same_name c t.denomination e)) ∙ other)
  where
    none : value t.denomination * t.amount / active g t.denomination ≡ 0
    none = ap (λ d. value t.denomination * t.amount / active g d) (sym (same_name c t.denomination e))
        ∙ ap (λ n. value t.denomination * t.amount / n) idle ∙ div-zero (value t.denomination * t.amount)

    by : (a b : Bool) → b ≡ false
        → cond a (cond b t.amount (value t.denomination * t.amount / active g t.denomination)) 0 ≡ 0
    by false b o = refl
    by true true o = absurd (true≢false o)
    by true false o = none

idle-worths : (g : Graph) (value : NameBytes → ℕ) (c : NameBytes) (ts : List Ticket) → active g c ≡ 0
    → bytes_eq c base ≡ false
    → Each (λ (t : Ticket). bytes_eq c t.denomination ≡ true) ts → sum_by (worth_by g value) ts ≡ 0
idle-worths g value c [] idle other each = refl
idle-worths g value c (t ∷ ts) idle other each =
    sum_by-cons (worth_by g value) t ts
    ∙ omega (arith, idle-worth g value c t idle other each.0, idle-worths g value c ts idle other each.1)

denominated_in-of : (g : Graph) (c : NameBytes)
    → Each (λ (t : Ticket). bytes_eq c t.denomination ≡ true) (denominated_in g.tickets c)
unfolding denominated_in
denominated_in-of g c =
    each_map _ (λ (t : Ticket). bytes_eq c t.denomination ≡ true) (λ t f. f.1)
    (filter (λ (t : Ticket). bytes_eq c t.denomination) g.tickets)
    (Each-filter (λ (t : Ticket). Unit {0}) (λ (t : Ticket). bytes_eq c t.denomination) g.tickets
    (Each-all (λ (t : Ticket). Unit {0}) g.tickets (λ t. tt)))

-- the tickets of a currency are worth at most its value
pub denominated_in-within : (g : Graph) (value : NameBytes → ℕ) (c : NameBytes) → bytes_eq c base ≡ false
    → sum_by (worth_by g value) (denominated_in g.tickets c) ≤ value c
denominated_in-within g value c other = by (active g c) refl
  where
    ts : List Ticket
    ts = denominated_in g.tickets c

    all : sum_by (worth_by g value) (denominated_in g.tickets c) * active g c ≤ value c * active g c
    all =
        let P : ℕ → Type 0 = λ n. sum_by (worth_by g value) (denominated_in g.tickets c) * active g c ≤ value c * n in
        subst P (sym (active-is g c)) (shares-within_value g value c (denominated_in g.tickets c) other
        (denominated_in-of g c))

    by : (n : ℕ) → active g c ≡ n → sum_by (worth_by g value) (denominated_in g.tickets c) ≤ value c
    by zero idle = let none = idle-worths g value c (denominated_in g.tickets c) idle other (denominated_in-of g c) in
        omega arith
    by (suc n) some = le_of_mul-le-mul_right all (omega arith)

-- the tickets of `base` are worth at most its active amount
base-within : (g : Graph) (value : NameBytes → ℕ) → sum_by (worth_by g value) (denominated_in g.tickets base)
    ≤ active g base
base-within g value =
    let P : ℕ → Type 0 = λ n. sum_by (worth_by g value) (denominated_in g.tickets base) ≤ n in
    subst P (sym (active-is g base))
    (sum_by-le_of (λ (t : Ticket). bytes_eq base t.denomination ≡ true) (worth_by g value) (active_amount g)
    (denominated_in g.tickets base) (denominated_in-of g base) (worth-of_base g value))

-- the currencies that were made are not `base`
pub made-other : (g : Graph) → IsWellNamed g → Each (λ (c : NameBytes). bytes_eq c base ≡ false) g.currencies
made-other g ok =
    count_by-zero (λ c. bytes_eq c base) g.currencies
    (let own = ok.names base in
    let more : times base (names_of g)
    ≡ 1 + times base g.currencies = sum_by-cons {X = NameBytes} (λ c. cond (bytes_eq c base) 1 0) base g.currencies in
    omega arith)

-- all tickets together are worth at most the active amount of `base` and the values of the currencies
pub worths-within : (g : Graph) (value : NameBytes → ℕ) → IsWellNamed g
    → sum_by (worth_by g value) g.tickets ≤ active g base + sum_by value g.currencies
unfolding denominated_in
worths-within g value ok =
    let R : NameBytes → Ticket → Bool = λ c t. bytes_eq c t.denomination in
    let w = worth_by g value in
    let cover = parts-cover R w (names_of g) g.tickets ok.known in
    let first = sum_by-cons (part R w g.tickets) base g.currencies in
    let own : part R w g.tickets base ≤ active g base = base-within g value in
    let rest : sum_by (part R w g.tickets) g.currencies ≤ sum_by value g.currencies =
    sum_by-le_of (λ (c : NameBytes). bytes_eq c base ≡ false) (part R w g.tickets) value g.currencies (made-other g ok)
    (denominated_in-within g value) in
    omega arith

-- a ticket is held by at most one currency or flow
held-once : (g : Graph) → IsWellNamed g → (h : Holder)
    → count_by (λ c. holder_is_currency c h) g.currencies + count_by
    (λ (e : NameBytes × OpenFlow). holder_is_flow e.1.number h) g.flows ≤ 1
held-once g ok Nobody =
    omega (
      arith,
      count_by-none (λ (c : NameBytes). false) g.currencies (λ c. refl),
      count_by-none
          (λ (e : NameBytes × OpenFlow). false) g.flows (λ e. refl),
    )
held-once g ok (Currency d) =
    let once = ok.names d in
    let more : times d (names_of g)
    ≡ cond (bytes_eq base d) 1 0 + times d g.currencies = sum_by-cons {X = NameBytes}
    (λ c. cond (bytes_eq c d) 1 0) base g.currencies in
    omega (arith, count_by-none (λ (e : NameBytes × OpenFlow). false) g.flows (λ e. refl))
held-once g ok (Flow f) =
    let once = ok.numbers f in
    omega (arith, count_by-none (λ (c : NameBytes). false) g.currencies (λ c. refl))

-- the values of one step more, and what the flows have, are within the worth of all tickets
pub values-within : (g : Graph) (n : ℕ) → IsWellNamed g
    → sum_by (val g (suc n)) g.currencies + sum_by
    (λ (e : NameBytes × OpenFlow). sum_by (worth g n) (funding g.tickets e.1.number)) g.flows
    ≤ sum_by (worth g n) g.tickets
unfolding val worth backing funding
values-within g n ok =
    parts-apart (λ c (t : Ticket). holder_is_currency c t.holder)
    (λ (e : NameBytes × OpenFlow) (t : Ticket). holder_is_flow e.1.number t.holder) (worth g n)
    g.currencies g.flows g.tickets (Each-all _ g.tickets (λ (t : Ticket). held-once g ok t.holder))

div-rises : (k m n : ℕ) → m ≤ n → m / k ≤ n / k
div-rises zero m n h = omega (arith, div-zero m, div-zero n)
div-rises (suc k) m n h =
    let floor = div-mul-le_self m (suc k) in
    (le-div_iff_mul-le {k = suc k} {x = m / suc k} {y = n} (omega arith)).1 (omega arith)

-- a value does not fall from step to step
worth-rises : (g : Graph) (v w : NameBytes → ℕ) (t : Ticket) → ((c : NameBytes) → v c ≤ w c)
    → worth_by g v t ≤ worth_by g w t
unfolding worth_by
worth-rises g v w t rise = by (is_active g t) (bytes_eq t.denomination base)
  where
    more : v t.denomination * t.amount / active g t.denomination ≤ w t.denomination * t.amount / active g t.denomination
    more = div-rises (active g t.denomination) _ _ (mul-le-mul_right t.amount (rise t.denomination))

    by : (a b : Bool)
        → cond a (cond b t.amount (v t.denomination * t.amount / active g t.denomination)) 0
        ≤ cond a (cond b t.amount (w t.denomination * t.amount / active g t.denomination)) 0
    by false b = omega arith
    by true true = omega arith
    by true false = more

pub val-rises : (g : Graph) (n : ℕ) (c : NameBytes) → val g n c ≤ val g (suc n) c
unfolding val
val-rises g zero c = omega arith
val-rises g (suc n) c =
    sum_by-le-sum_by (worth_by g (val g n)) (worth_by g (val g (suc n))) (backing g.tickets c)
    (λ t. worth-rises g (val g n) (val g (suc n)) t (val-rises g n))

-- the worth of the flows together is within the active amount of `base`
pub flows-within : (g : Graph) (n : ℕ) → IsWellNamed g
    → sum_by (λ (e : NameBytes × OpenFlow). sum_by (worth g n) (funding g.tickets e.1.number)) g.flows ≤ active g base
unfolding worth
flows-within g n ok =
    let held = values-within g n ok in
    let all = worths-within g (val g n) ok in
    let rise = sum_by-le-sum_by (val g n) (val g (suc n)) g.currencies (val-rises g n) in
    omega arith

pub shares-within : (g : Graph) → IsWellNamed g → SharesAreWithin g
unfolding tickets
shares-within g ok = record {
  funded = flows-within g 9 ok;
  shares =
      let all = flows-within g 9 ok in
      let capped =
      sum_by-le-sum_by (λ (e : NameBytes × OpenFlow). min (2 ^ 20) (uncapped_tickets g e.1.number))
      (λ (e : NameBytes × OpenFlow). uncapped_tickets g e.1.number) g.flows (λ e. omega arith) in
      omega arith;
  cap_idle = λ few.
      each_map (λ (e : NameBytes × OpenFlow). uncapped_tickets g e.1.number ≤ active g base)
      (λ (e : NameBytes × OpenFlow). min (2 ^ 20) (uncapped_tickets g e.1.number) ≡ uncapped_tickets g e.1.number)
      (λ e within. omega arith) g.flows
      (each-term (λ (e : NameBytes × OpenFlow). uncapped_tickets g e.1.number) (active g base) g.flows
      (flows-within g 9 ok));
}

-- the values of all currencies are within n times the active amount of `base`
pub vals-within : (g : Graph) (n : ℕ) → IsWellNamed g → sum_by (val g n) g.currencies ≤ n * active g base
unfolding val worth
vals-within g zero ok = none g.currencies
  where
    none : (cs : List NameBytes) → sum_by (λ (c : NameBytes). 0) cs ≤ 0 * active g base
    none [] = omega arith
    none (c ∷ cs) = omega (arith, sum_by-cons {X = NameBytes} (λ c. 0) c cs, none cs)
vals-within g (suc n) ok =
    let held = values-within g n ok in
    let all = worths-within g (val g n) ok in
    let before = vals-within g n ok in
    omega arith

-- with small amounts the active amount of a currency is small
pub active-within : (g : Graph) (c : NameBytes) → Each (λ (t : Ticket). t.amount ≤ 2 ^ 20) g.tickets
    → length g.tickets ≤ 1024 → active g c ≤ 2 ^ 30
unfolding denominated_in
active-within g c small few =
    let all = bounded g.tickets small in
    omega (arith, active-is g c, sum_by-filter (active_amount g) (λ (t : Ticket). bytes_eq c t.denomination) g.tickets)
  where
    term : Ticket → ℕ
    term t = cond (bytes_eq c t.denomination) (active_amount g t) 0

    at : (a b : Bool) (n : ℕ) → n ≤ 2 ^ 20 → cond a (cond b n 0) 0 ≤ 2 ^ 20
    at false b n h = omega arith
    at true false n h = omega arith
    at true true n h = h

    bounded : (ts : List Ticket) → Each (λ (t : Ticket). t.amount ≤ 2 ^ 20) ts
        → sum_by (λ (t : Ticket). cond (bytes_eq c t.denomination) (active_amount g t) 0) ts ≤ length ts * 2 ^ 20
    bounded [] each = omega arith
    bounded (t ∷ ts) each =
        let rest = bounded ts each.1 in
        let here = at (bytes_eq c t.denomination) (is_active g t) t.amount each.0 in
        omega (arith, sum_by-cons (λ (t : Ticket). cond (bytes_eq c t.denomination) (active_amount g t) 0) t ts)
