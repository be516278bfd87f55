-- The effect on the weights of one holder that becomes active or idle.
use Rattle.std.proofs.Common.{◌≡◌, ◌≤◌, ◌<◌, ◌+◌, ◌*◌, ◌^◌, ℕ, ◌/◌, zero, suc, Bool, true, false, cond, ◌&&◌, List}
use Rattle.std.proofs.Common.{[], ◌∷◌}
use Rattle.std.proofs.Common.{nat_eq, set, get_or, sum_by, length, refl, sym, ap, subst, ◌∙◌, arith}
use Rattle.std.proofs.lemmas.Bool.Decides.{nat_tests}
use Rattle.std.proofs.lemmas.List.{get_or-set_other}
use Rattle.std.proofs.lemmas.Grind.{get_or-set_at}
use Rattle.std.proofs.lemmas.List.Sums.{sum_by-cons}
use Rattle.std.proofs.lemmas.Bool.{eqb-true}
use Rattle.share_model.specs.funding.Graph.{Graph}
use Rattle.share_model.specs.funding.WellFormed.{IsWellFormed}
use Rattle.share_model.specs.lists.Each.{Each}
use Rattle.share_ledger.specs.declared.routes.Route.{Route}
use Rattle.share_ledger.specs.declared.funding_tickets.FundingTicket.{FundingTicket}
use Rattle.share_ledger.specs.Routes.{weight_from}
use Rattle.share_model.proofs.lemmas.lists.SumLemmas.{sum_by-same_of}
use Rattle.share_ledger.specs.Ranks.{AreOrdered}
use Rattle.share_ledger.specs.FundingTickets.{funding_ticket_of, amount_from, AreTicketed, AreCounted, AreValued}
use Rattle.share_ledger.specs.FundingTickets.{HaveValues, funding_tickets_at, backs_of}
use Rattle.share_ledger.specs.FundingTickets.{funds_of}
use Rattle.share_ledger.specs.FundingTickets.{funding_ticket_worth, worth_at}
use Rattle.share_ledger.proofs.RouteListLemmas.{weight_from-bound}
use Rattle.share_ledger.proofs.RouteBoundLemmas.{done-within, done-few}

-- an array that is written at one place
pub array-set : {X : Type 0} (xs : List X) (p k : ℕ) (y d : X) → p < length xs
    → get_or (set xs p y) k d ≡ cond (nat_eq p k) y (get_or xs k d)
array-set xs p k y d lt =
    let at = λ (e : k ≡ p). get_or-set_at xs p k y d e lt in
    let past = λ (e : k ≡ p → ⊥). get_or-set_other xs p k y d e in
    grind (arith, nat_tests)

pub sum_two : {X : Type 0} (v w u : X → ℕ) (xs : List X) → ((x : X) → v x + w x ≡ u x)
    → sum_by v xs + sum_by w xs ≡ sum_by u xs
sum_two v w u [] same = refl
sum_two v w u (x ∷ xs) same =
    let rest = sum_two v w u xs same in
    let here = same x in
    omega (arith, sum_by-cons v x xs, sum_by-cons w x xs, sum_by-cons u x xs)

-- one more place is awake: its funding tickets count
module _ (on more : ℕ → Bool) (p : ℕ) (off : on p ≡ false)
    (wakes : (k : ℕ) → more k ≡ cond (nat_eq p k) true (on k)) where
  same_number : (a b : ℕ) → nat_eq a b ≡ true → b ≡ a
  same_number a b e = grind (arith, nat_tests)

  idle_more : (a : Bool) (n : ℕ) → cond (a && false) n 0 + cond a n 0 ≡ cond (a && true) n 0
  idle_more true n = omega arith
  idle_more false n = refl

  none_more : (n : ℕ) → n + 0 ≡ n
  none_more n = omega arith

  wakes-at : (a : Bool) (to n : ℕ)
      → cond (a && on to) n 0 + cond (nat_eq p to) (cond a n 0) 0 ≡ cond (a && more to) n 0
  wakes-at a to n = grind (arith, nat_tests, same_number, idle_more, none_more)

  pub weight_from-more : (rs : List Route) (ss : List FundingTicket) (x : ℕ)
      → ((F : FundingTicket → ℕ) → sum_by F ss
      ≡ sum_by (λ (r : Route). cond (nat_eq p r.to) (F (funding_ticket_of r)) 0) rs)
      → weight_from rs more x ≡ weight_from rs on x + amount_from ss x
  unfolding weight_from
  weight_from-more rs ss x ticketed =
      let own = ticketed (λ (s : FundingTicket). cond (nat_eq x s.from) s.amount 0) in
      let both = sum_two (λ (r : Route). cond (nat_eq x r.from && on r.to) r.amount 0)
      (λ (r : Route). cond (nat_eq p r.to) (cond (nat_eq x r.from) r.amount 0) 0)
      (λ (r : Route). cond (nat_eq x r.from && more r.to) r.amount 0) rs
      (λ r. wakes-at (nat_eq x r.from) r.to r.amount) in
      omega arith

-- one place fewer is awake: the others are as they were
pub rests : (on less : ℕ → Bool) (p : ℕ) → on p ≡ true → ((k : ℕ) → less k ≡ cond (nat_eq p k) false (on k))
    → (k : ℕ) → on k ≡ cond (nat_eq p k) true (less k)
rests on less p lit off k = let here = off k in grind (arith, nat_tests)

-- weights are small
pub counted-bound : (g : Graph) (awake active : ℕ → Bool) (whole : ℕ → ℕ) → IsWellFormed g
    → AreCounted (backs_of g) (funds_of g) awake active whole → (p : ℕ) → p < 65 → whole p ≤ 2 ^ 31
counted-bound g awake active whole ok counted p lt =
    let one = weight_from-bound (backs_of g) awake p (done-within g ok true (backs_of g) refl)
    (done-few g ok true (backs_of g) refl) in
    let two = weight_from-bound (funds_of g) active p (done-within g ok false (funds_of g) refl)
    (done-few g ok false (funds_of g) refl) in
    let sum = counted p lt in
    omega arith

-- funding tickets that come from before a place in some order count for none of those that are not before it
pub amount_from-none : (spot : ℕ → ℕ) (n x : ℕ) (ss : List FundingTicket) → n ≤ spot x
    → Each (λ (s : FundingTicket). (s.from < 65) × (spot s.from < n)) ss → amount_from ss x ≡ 0
amount_from-none spot n x [] le before = refl
amount_from-none spot n x (s ∷ ss) le before =
    let rest = amount_from-none spot n x ss le before.1 in
    let here = ap {B = ℕ} (λ b. cond b s.amount 0) (apart x s.from (λ e.
    let same = ap spot e in let lt = before.0.1 in omega arith)) in
    sum_by-cons (λ (s : FundingTicket). cond (nat_eq x s.from) s.amount 0) s ss ∙ omega arith
  where
    same_number : (a b : ℕ) → nat_eq a b ≡ true → b ≡ a
    same_number a b e = grind (arith, nat_tests)

    apart : (a b : ℕ) → (b ≡ a → ⊥) → nat_eq a b ≡ false
    apart a b differs = grind (arith, nat_tests, same_number)

-- the sum if a holder wakes, and if it rests
module _ (rs : List Route) (hs : List (List FundingTicket)) (ticketed : AreTicketed rs hs) (p : ℕ) (lt : p < 65)
    (ss : List FundingTicket)
    (own : ss ≡ funding_tickets_at hs p) (on other : ℕ → Bool) where
  pub weight_from-woken : on p ≡ false → ((k : ℕ) → other k ≡ cond (nat_eq p k) true (on k)) → (x : ℕ)
      → weight_from rs other x ≡ weight_from rs on x + amount_from ss x
  weight_from-woken off wakes x =
      rw own (weight_from-more on other p off wakes rs (funding_tickets_at hs p) x (λ F. ticketed.ticketed F p lt))

  pub weight_from-rested : on p ≡ true → ((k : ℕ) → other k ≡ cond (nat_eq p k) false (on k)) → (x : ℕ)
      → weight_from rs on x ≡ weight_from rs other x + amount_from ss x
  weight_from-rested lit rest x =
      rw own
      (weight_from-more other on p (let gone = rest p in grind (arith, nat_tests)) (rests on other p lit rest) rs
      (funding_tickets_at hs p) x (λ F. ticketed.ticketed F p lt))

-- the worth of funding tickets depends on the places that they come from alone
pub worth_at-before : (bs : List (List FundingTicket)) (awake : ℕ → Bool) (v w whole : ℕ → ℕ) (p : ℕ)
    (P : FundingTicket → Type 0)
    → Each P (funding_tickets_at bs p) → ((s : FundingTicket) → P s → v s.from ≡ w s.from)
    → worth_at bs awake v whole p ≡ worth_at bs awake w whole p
worth_at-before bs awake v w whole p P before same =
    ap (λ n. cond (awake p) n 0)
    (sum_by-same_of P (funding_ticket_worth v whole) (funding_ticket_worth w whole) (funding_tickets_at bs p) before
    (λ s at. ap (λ n. cond (nat_eq s.from 0) s.amount (n * s.amount / whole s.from)) (same s at)))

-- and not on the value of `base`
pub worth_at-above : (bs : List (List FundingTicket)) (awake : ℕ → Bool) (v w whole : ℕ → ℕ) (p : ℕ)
    (P : FundingTicket → Type 0)
    → Each P (funding_tickets_at bs p) → ((s : FundingTicket) → 0 < s.from → P s → v s.from ≡ w s.from)
    → worth_at bs awake v whole p ≡ worth_at bs awake w whole p
worth_at-above bs awake v w whole p P before same =
    ap (λ n. cond (awake p) n 0)
    (sum_by-same_of P (funding_ticket_worth v whole) (funding_ticket_worth w whole) (funding_tickets_at bs p) before
    (λ s at. by (nat_eq s.from 0) s refl at))
  where
    above : (n : ℕ) → nat_eq n 0 ≡ false → 0 < n
    above n e = grind (arith, nat_tests)

    by : (b : Bool) (s : FundingTicket) → nat_eq s.from 0 ≡ b → P s
        → cond b s.amount (v s.from * s.amount / whole s.from) ≡ cond b s.amount (w s.from * s.amount / whole s.from)
    by true s e at = refl
    by false s e at = ap (λ n. n * s.amount / whole s.from) (same s (above s.from e) at)

-- The place that is next in an order
module _ (bs : List (List FundingTicket)) (order : ℕ → ℕ) (o : AreOrdered bs order) (i : ℕ) (up : 0 < i) (lt : i < 65)
  where
    pub next-spot : o.spot (order i) ≡ i
    next-spot = (o.back i lt).1

    pub next-within : order i < 65
    next-within = (o.back i lt).0

    pub next-above : 0 < order i
    next-above = grind (arith, nat_tests, next-spot)

    -- no other place is at its spot
    pub not-next : (k : ℕ) → k < 65 → nat_eq (order i) k ≡ false → o.spot k < i + 1 → o.spot k < i
    not-next k below e under = grind (arith, nat_tests, eqb-true)

    -- one that is before it is not the same
    pub before-next : (k : ℕ) → o.spot k < i → nat_eq (order i) k ≡ false
    before-next k under = grind (arith, nat_tests, eqb-true, next-spot)

    -- its funding tickets come from before it
    pub next-before : Each (λ (s : FundingTicket). (s.from < 65) × (o.spot s.from < i))
        (funding_tickets_at bs (order i))
    next-before =
        subst (λ n. Each (λ (s : FundingTicket). (s.from < 65) × (o.spot s.from < n)) (funding_tickets_at bs (order i)))
        next-spot
        (o.before (order i) next-above next-within)

    -- one value more
    pub valued-more : (awake : ℕ → Bool) (v next whole : ℕ → ℕ) (n : ℕ)
        → ((k : ℕ) → next k ≡ cond (nat_eq (order i) k) n (v k)) → n ≡ worth_at bs awake v whole (order i)
        → ((k : ℕ) → 0 < k → k < 65 → o.spot k < i → v k ≡ worth_at bs awake v whole k)
        → (k : ℕ) → 0 < k → k < 65 → o.spot k < i + 1 → next k ≡ worth_at bs awake next whole k
    valued-more awake v next whole n set_one here before k above below under = by (nat_eq (order i) k) refl
      where
        left : (j : ℕ) → o.spot j < i → v j ≡ next j
        left j l = sym (set_one j ∙ ap (λ b. cond b n (v j)) (before-next j l))

        by : (b : Bool) → nat_eq (order i) k ≡ b → next k ≡ worth_at bs awake next whole k
        by true e =
            set_one k ∙ ap (λ b. cond b n (v k)) e ∙ here
            ∙ worth_at-before bs awake v next whole (order i)
            (λ (s : FundingTicket). (s.from < 65) × (o.spot s.from < i))
            next-before
            (λ s at. left s.from at.1)
            ∙ ap (worth_at bs awake next whole) (eqb-true (order i) k e)
        by false e =
            let earlier = not-next k below e under in
            set_one k ∙ ap (λ b. cond b n (v k)) e ∙ before k above below earlier
            ∙ worth_at-before bs awake v next whole k
            (λ (s : FundingTicket). (s.from < 65) × (o.spot s.from < o.spot k))
            (o.before k above below)
            (λ s at. left s.from (let lt_s = at.1 in omega arith))

    -- the values that are computed so far are those that there are
    values-are : (awake : ℕ → Bool) (v w whole : ℕ → ℕ) → AreValued bs awake v whole
        → ((k : ℕ) → 0 < k → k < 65 → o.spot k < i → w k ≡ worth_at bs awake w whole k)
        → (n : ℕ) → n ≤ i → (k : ℕ) → 0 < k → k < 65 → o.spot k < n → w k ≡ v k
    values-are awake v w whole valued before zero le k above below under = absurd (omega arith)
    values-are awake v w whole valued before (suc n) le k above below under =
        before k above below (omega arith)
        ∙ worth_at-above bs awake w v whole k (λ (s : FundingTicket). (s.from < 65) × (o.spot s.from < o.spot k))
        (o.before k above below)
        (λ s up at. values-are awake v w whole valued before n (omega arith) s.from up at.0
        (let lt_s = at.1 in omega arith))
        ∙ sym (valued k above below)

    -- so the next one is small
    pub next-small : (awake : ℕ → Bool) (w whole : ℕ → ℕ) → HaveValues bs awake whole
        → ((k : ℕ) → 0 < k → k < 65 → o.spot k < i → w k ≡ worth_at bs awake w whole k)
        → worth_at bs awake w whole (order i) ≤ 9 * 2 ^ 30
    next-small awake w whole have before =
        let v = have.0 in
        let is =
        worth_at-above bs awake w v whole (order i) (λ (s : FundingTicket). (s.from < 65) × (o.spot s.from < i))
        next-before
        (λ s up at. values-are awake v w whole have.1.0 before i (omega arith) s.from up at.0 at.1)
        ∙ sym (have.1.0 (order i) next-above next-within) in
        let few = have.1.1 (order i) next-within in
        omega arith
