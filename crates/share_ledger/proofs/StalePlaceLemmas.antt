-- The values that stay if no weight and no value that funding tickets rest on has changed.
use Rattle.std.proofs.Common.{zero, suc, ◌≡◌, ◌<◌, ◌≤◌, ◌+◌, ◌*◌, ◌/◌, ◌^◌, ℕ, min, List, [], ◌∷◌}
use Rattle.std.proofs.Common.{Bool, true, false, cond, not, ◌&&◌, ◌||◌}
use Rattle.std.proofs.Common.{set, length, sum_by, nat_eq, nat_lt, refl, sym, ap, subst, ◌∙◌, arith}
use Rattle.std.specs.List.{list_any}
use Rattle.std.proofs.lemmas.Bool.Decides.{nat_tests}
use Rattle.std.proofs.lemmas.Bool.{eqb-true}
use Rattle.share_model.proofs.lemmas.funding.SettledGraphLemmas.{any_none}
use Rattle.share_model.specs.lists.Each.{Each}
use Rattle.share_model.proofs.lemmas.lists.FirstItemLemmas.{each_map}
use Rattle.share_model.proofs.lemmas.lists.SumLemmas.{sum_by-same_of}
use Rattle.share_ledger.specs.declared.valuation.Valuation.{Valuation}
use Rattle.share_ledger.specs.declared.routes.Route.{Route}
use Rattle.share_ledger.specs.declared.funding_tickets.FundingTicket.{FundingTicket}
use Rattle.share_ledger.specs.Valuations.{HasInputs, IsReady}
use Rattle.share_ledger.specs.Arrays.{flags_of, numbers_of}
use Rattle.share_ledger.specs.FundingTickets.{IsFundingTicketWithin, funding_ticket_worth, funding_tickets_at, worth_at}
use Rattle.share_ledger.specs.FundingTickets.{AreAwake, AreShared}
use Rattle.share_ledger.specs.Ranks.{AreOrdered}
use Rattle.share_ledger.specs.Stale.{is_stale, WereValued, AreMoved, WasCurrent, IsLeft}
use Rattle.share_ledger.proofs.BaseFundingLemmas.{worth_at-quiet}
use Rattle.share_ledger.proofs.WeightLemmas.{next-spot, next-within, next-above, not-next, next-before}
use Rattle.share_ledger.proofs.WeightLemmas.{array-set, valued-more, worth_at-before}

-- funding tickets from places that did not move are worth what they were
module _ (moved : ℕ → Bool) (v w s u : ℕ → ℕ) where
  each-both : (P : FundingTicket → Type 0) (xs : List FundingTicket) → Each P xs
      → Each (λ (x : FundingTicket). moved x.from ≡ false) xs
      → Each (λ (x : FundingTicket). P x × (moved x.from ≡ false)) xs
  each-both P [] p q = tt
  each-both P (x ∷ xs) p q = ((p.0, q.0), each-both P xs p.1 q.1)

  pub worth_at-still : (ss : List (List FundingTicket)) (on other : ℕ → Bool) (P : ℕ → Type 0) (p : ℕ) → on p ≡ other p
      → Each (λ (x : FundingTicket). P x.from) (funding_tickets_at ss p)
      → ((k : ℕ) → 0 < k → P k → moved k ≡ false → (w k ≡ v k) × (u k ≡ s k))
      → list_any (λ (x : FundingTicket). moved x.from) (funding_tickets_at ss p) ≡ false
      → worth_at ss on v s p ≡ worth_at ss other w u p
  worth_at-still ss on other P p lit before still none =
      ap (λ b. cond b (sum_by (funding_ticket_worth v s) (funding_tickets_at ss p)) 0) lit
      ∙ ap (λ k. cond (other p) k 0)
      (sum_by-same_of (λ (x : FundingTicket). P x.from × (moved x.from ≡ false)) (funding_ticket_worth v s)
      (funding_ticket_worth w u)
      (funding_tickets_at ss p)
      (each-both (λ (x : FundingTicket). P x.from) (funding_tickets_at ss p) before
      (any_none (λ (x : FundingTicket). moved x.from) (funding_tickets_at ss p) none))
      (λ x at. by (nat_eq x.from 0) x refl at))
    where
      above : (n : ℕ) → nat_eq n 0 ≡ false → 0 < n
      above n e = grind (arith, nat_tests)

      by : (b : Bool) (x : FundingTicket) → nat_eq x.from 0 ≡ b → P x.from × (moved x.from ≡ false)
          → cond b x.amount (v x.from * x.amount / s x.from) ≡ cond b x.amount (w x.from * x.amount / u x.from)
      by true x e at = refl
      by false x e at =
          let same = still x.from (above x.from e) at.0 at.1 in
          ap (λ n. n * x.amount / s x.from) (sym same.0) ∙ ap (λ n. w x.from * x.amount / n) (sym same.1)

  -- one place more that is not stale
  module _ (ss : List (List FundingTicket)) (order : ℕ → ℕ) (o : AreOrdered ss order) (i : ℕ) (up : 0 < i) (lt : i < 65)
      (awake : ℕ → Bool) (changed : ℕ) (lit : AreAwake awake u) (were : WereValued ss v s changed)
      (fresh : is_stale ss moved u s changed (order i) ≡ false) (left : (k : ℕ) → k < 65 → i ≤ o.spot k → w k ≡ v k)
      (same : (k : ℕ) → 0 < k → k < 65 → o.spot k < i → moved k ≡ false → (w k ≡ v k) × (u k ≡ s k)) where
    p : ℕ
    p = order i

    parts : (a b c : Bool) → (a || b || c) ≡ false → (a ≡ false) × ((b ≡ false) × (c ≡ false))
    parts false false false e = (refl, (refl, refl))
    parts false false true e = absurd (cc)
    parts false true c e = absurd (cc)
    parts true b c e = absurd (cc)

    all : (nat_eq changed p ≡ false) × ((not (nat_eq (u p) (s p)) ≡ false)
        × (list_any (λ (x : FundingTicket). moved x.from) (funding_tickets_at ss p) ≡ false))
    unfolding p
    all = grind (arith, nat_tests, parts, p)

    weight : u p ≡ s p
    weight = grind (arith, nat_tests, p, all)

    here-left : w p ≡ v p
    unfolding p
    here-left =
        left p (next-within ss order o i up lt) (let own = next-spot ss order o i up lt in omega arith)

    pub fresh-same : (k : ℕ) → 0 < k → k < 65 → o.spot k < i + 1 → moved k ≡ false → (w k ≡ v k) × (u k ≡ s k)
    unfolding p
    fresh-same k above below under still = grind (arith, nat_tests, p, eqb-true, here-left, weight, not-next)

    pub fresh-valued : ((k : ℕ) → 0 < k → k < 65 → o.spot k < i → w k ≡ worth_at ss awake w u k)
        → (k : ℕ) → 0 < k → k < 65 → o.spot k < i + 1 → w k ≡ worth_at ss awake w u k
    unfolding p
    fresh-valued before k above below under = by (nat_eq p k) refl
      where
        here : w p ≡ worth_at ss awake w u p
        here =
            let within = next-within ss order o i up lt in
            let made = next-above ss order o i up lt in
            here-left ∙ were p made within all.0
            ∙ worth_at-still ss (λ k. nat_lt 0 (s k)) awake (λ k. (k < 65) × (o.spot k < i)) p
            (sym (lit p made within ∙ ap (nat_lt 0) weight))
            (next-before ss order o i up lt)
            (λ k above at still. same k above at.0 at.1 still) all.1.1

        by : (b : Bool) → nat_eq p k ≡ b → w k ≡ worth_at ss awake w u k
        by true e = let at = sym (eqb-true p k e) in ap w at ∙ here ∙ ap (worth_at ss awake w u) (sym at)
        by false e = before k above below (not-next ss order o i up lt k below e under)

-- only `base` is at the first spot
pub order-above : (ss : List (List FundingTicket)) (order : ℕ → ℕ) (o : AreOrdered ss order) (k : ℕ) → 0 < k → k < 65
    → 0 < o.spot k
order-above ss order o k up lt = by (o.spot k) refl
  where
    by : (n : ℕ) → o.spot k ≡ n → 0 < n
    by zero e =
        let here = (o.there k lt).1 in
        let base = (o.there 0 (omega arith)).1 in
        let same = ap order (e ∙ sym o.first) in
        absurd (omega arith)
    by (suc n) e = omega arith

-- one place more that is computed from scratch
module _ (ss : List (List FundingTicket)) (order : ℕ → ℕ) (o : AreOrdered ss order) (i : ℕ) (up : 0 < i) (lt : i < 65)
    (moved next : ℕ → Bool) (v w x s u : ℕ → ℕ) (n : ℕ)
    (wrote : (k : ℕ) → x k ≡ cond (nat_eq (order i) k) n (w k))
    (flagged : (k : ℕ) → next k
    ≡ cond (nat_eq (order i) k) (not (nat_eq (u (order i)) (s (order i))) || not (nat_eq (x (order i)) (w (order i))))
    (moved k))
    (left : (k : ℕ) → k < 65 → i ≤ o.spot k → w k ≡ v k)
    (same : (k : ℕ) → 0 < k → k < 65 → o.spot k < i → moved k ≡ false → (w k ≡ v k) × (u k ≡ s k)) where
  pub stale-left : (k : ℕ) → k < 65 → i + 1 ≤ o.spot k → x k ≡ v k
  stale-left k below past = grind (arith, nat_tests, eqb-true, next-spot)

  pub stale-same : (k : ℕ) → 0 < k → k < 65 → o.spot k < i + 1 → next k ≡ false → (x k ≡ v k) × (u k ≡ s k)
  stale-same k above below under still = grind (arith, nat_tests, eqb-true, next-spot, next-within, not-next)

-- the next place, whether or not it is stale
module _ (ss : List (List FundingTicket)) (order : ℕ → ℕ) (o : AreOrdered ss order) (i : ℕ) (up : 0 < i) (lt : i < 65)
    (awake : ℕ → Bool) (changed : ℕ) (moved next : ℕ → Bool) (v w x s u : ℕ → ℕ) (lit : AreAwake awake u)
    (were : WereValued ss v s changed)
    (fresh : is_stale ss moved u s changed (order i) ≡ false
    → ((k : ℕ) → next k ≡ moved k) × ((k : ℕ) → x k ≡ w k))
    (wrote : is_stale ss moved u s changed (order i) ≡ true
    → (k : ℕ) → x k ≡ cond (nat_eq (order i) k) (worth_at ss awake w u (order i)) (w k))
    (flagged : is_stale ss moved u s changed (order i) ≡ true → (k : ℕ) → next k
    ≡ cond (nat_eq (order i) k) (not (nat_eq (u (order i)) (s (order i))) || not (nat_eq (x (order i)) (w (order i))))
    (moved k))
    (left : (k : ℕ) → k < 65 → i ≤ o.spot k → w k ≡ v k)
    (same : (k : ℕ) → 0 < k → k < 65 → o.spot k < i → moved k ≡ false → (w k ≡ v k) × (u k ≡ s k)) where
  pub next-left : (k : ℕ) → k < 65 → i + 1 ≤ o.spot k → x k ≡ v k
  next-left k below past = grind (arith, nat_tests, stale-left)

  pub next-same : (k : ℕ) → 0 < k → k < 65 → o.spot k < i + 1 → next k ≡ false → (x k ≡ v k) × (u k ≡ s k)
  next-same k above below under still = by (is_stale ss moved u s changed (order i)) refl
    where
      by : (b : Bool) → is_stale ss moved u s changed (order i) ≡ b → (x k ≡ v k) × (u k ≡ s k)
      by true e =
          stale-same ss order o i up lt moved next v w x s u (worth_at ss awake w u (order i)) (wrote e) (flagged e)
          left
          same k above below under still
      by false e =
          let own =
          fresh-same moved v w s u ss order o i up lt awake changed lit were e left same k above below under
          (sym ((fresh e).0 k) ∙ still) in
          ((fresh e).1 k ∙ own.0, own.1)

  pub next-valued : ((k : ℕ) → 0 < k → k < 65 → o.spot k < i → w k ≡ worth_at ss awake w u k)
      → (k : ℕ) → 0 < k → k < 65 → o.spot k < i + 1 → x k ≡ worth_at ss awake x u k
  next-valued valued k above below under = by (is_stale ss moved u s changed (order i)) refl
    where
      anything : (xs : List FundingTicket) → Each (λ (y : FundingTicket). Unit {0}) xs
      anything [] = tt
      anything (x ∷ xs) = (tt, anything xs)

      by : (b : Bool) → is_stale ss moved u s changed (order i) ≡ b → x k ≡ worth_at ss awake x u k
      by true e =
          valued-more ss order o i up lt awake w x u (worth_at ss awake w u (order i)) (wrote e) refl
          valued k above below
          under
      by false e =
          (fresh e).1 k
          ∙ fresh-valued moved v w s u ss order o i up lt awake changed lit were e left same valued k above below under
          ∙ worth_at-before ss awake w x u k (λ (y : FundingTicket). Unit {0}) (anything (funding_tickets_at ss k))
          (λ s _. sym ((fresh e).1 s.from))

-- the tickets of flows that were computed from scratch, or did not have to be
pub shared-still : (moved : ℕ → Bool) (v w s u : ℕ → ℕ) (fs : List (List FundingTicket)) (on : ℕ → Bool)
    (old next : ℕ → ℕ)
    (f : ℕ) → ((p : ℕ) → p < 65 → Each IsFundingTicketWithin (funding_tickets_at fs p)) → AreMoved moved v w s u
    → ((p : ℕ) → p < 64
    → next p ≡ cond (nat_eq f p || (on p && list_any (λ (x : FundingTicket). moved x.from) (funding_tickets_at fs p)))
    (min (worth_at fs on w u p) (2 ^ 20)) (old p))
    → ((p : ℕ) → p < 64 → nat_eq f p ≡ false → old p ≡ min (worth_at fs on v s p) (2 ^ 20))
    → AreShared fs on w u next
shared-still moved v w s u fs on old next f within still wrote were p lt =
    wrote p lt ∙ by (nat_eq f p) (on p) (list_any (λ (x : FundingTicket). moved x.from) (funding_tickets_at fs p)) refl
    refl refl
  where
    places : Each (λ (x : FundingTicket). x.from < 65) (funding_tickets_at fs p)
    places = each_map IsFundingTicketWithin (λ (x : FundingTicket). x.from < 65) (λ x e. e.from_place)
        (funding_tickets_at fs p)
        (within p (omega arith))

    by : (a l b : Bool) → nat_eq f p ≡ a → on p ≡ l
        → list_any (λ (x : FundingTicket). moved x.from) (funding_tickets_at fs p) ≡ b
        → cond (a || (l && b)) (min (worth_at fs on w u p) (2 ^ 20)) (old p) ≡ min (worth_at fs on w u p) (2 ^ 20)
    by true l b e lit n = refl
    by false true true e lit n = refl
    by false true false e lit n =
        were p lt e
        ∙ ap (λ k. min k (2 ^ 20)) (worth_at-still moved v w s u fs on on (λ k. k < 65) p refl places
        (λ k up under no. still k up under no) n)
    by false false b e lit n =
        were p lt e
        ∙ ap (λ l. min (cond l (sum_by (funding_ticket_worth v s) (funding_tickets_at fs p)) 0) (2 ^ 20)) lit
        ∙ sym (ap (λ l. min (cond l (sum_by (funding_ticket_worth w u) (funding_tickets_at fs p)) 0) (2 ^ 20)) lit)

-- the ready values followed from the weights that were seen
pub ready-was : (n : Valuation) (tickets_of_all : List ℕ) (backs funds : List Route) (lit : ℕ → Bool) (c f : ℕ)
    → IsReady n tickets_of_all backs funds lit → WasCurrent n tickets_of_all c f
ready-was n tickets_of_all backs funds lit c f ready = record {
  awake_was = λ p up lt. ready.awake_is p up lt ∙ ap (nat_lt 0) (sym (ready.seen_is p up lt));
  valued = λ p up lt _. ready.valued p up lt
      ∙ worth_at-quiet n.backing.items (flags_of n.awake.value) (numbers_of n.values.value) (numbers_of n.weights.value)
      (numbers_of n.seen.value) p (ready.begun.backing.within p lt) ready.seen_is
      ∙ ap (λ b. cond b (sum_by (funding_ticket_worth (numbers_of n.values.value) (numbers_of n.seen.value))
      (funding_tickets_at n.backing.items p)) 0)
      (ready.awake_is p up lt ∙ ap (nat_lt 0) (sym (ready.seen_is p up lt)));
  asleep = λ up lt idle. ready.valued c up lt
      ∙ ap (λ b. cond b (sum_by (funding_ticket_worth (numbers_of n.values.value) (numbers_of n.weights.value))
      (funding_tickets_at n.backing.items c)) 0) idle;
  shared = λ p lt _. ready.shared p lt
      ∙ ap (λ k. min k (2 ^ 20))
      (worth_at-quiet n.funding.items (flags_of n.active.value) (numbers_of n.values.value) (numbers_of n.weights.value)
      (numbers_of n.seen.value) p (ready.begun.funding.within p (omega arith)) ready.seen_is);
}

-- and so did what is left of it
module _ (old new : Valuation) (tickets_of_all : List ℕ) (c f : ℕ) (values : new.values ≡ old.values)
    (seen : new.seen ≡ old.seen)
    (was : WasCurrent old tickets_of_all 0 64) where
  none : (k p : ℕ) → p < k → nat_eq k p ≡ false
  none k p lt = grind (arith, nat_tests)

  nought : (p : ℕ) → 0 < p → nat_eq 0 p ≡ false
  nought p up = grind (arith, nat_tests)

  -- the worth of funding tickets with the same values and the same weights that were seen
  worth-left : (ss other : List (List FundingTicket)) (on lit : ℕ → Bool) (p : ℕ) → on p ≡ lit p
      → funding_tickets_at ss p ≡ funding_tickets_at other p
      → worth_at ss on (numbers_of old.values.value) (numbers_of old.seen.value) p
      ≡ worth_at other lit (numbers_of new.values.value) (numbers_of new.seen.value) p
  worth-left ss other on lit p same funding_tickets =
      ap (λ b. cond b (sum_by (funding_ticket_worth (numbers_of old.values.value) (numbers_of old.seen.value))
      (funding_tickets_at ss p)) 0) same
      ∙ ap (λ xs. cond (lit p) (sum_by (funding_ticket_worth (numbers_of old.values.value) (numbers_of old.seen.value))
      xs) 0)
      funding_tickets
      ∙ ap (λ v. cond (lit p) (sum_by (funding_ticket_worth (numbers_of v.value) (numbers_of old.seen.value))
      (funding_tickets_at other p)) 0) (sym values)
      ∙ ap (λ s. cond (lit p) (sum_by (funding_ticket_worth (numbers_of new.values.value) (numbers_of s.value))
      (funding_tickets_at other p)) 0) (sym seen)

  pub left-was : new.awake ≡ old.awake
      → ((k : ℕ) → nat_eq c k ≡ false → funding_tickets_at new.backing.items k ≡ funding_tickets_at old.backing.items k)
      → ((k : ℕ) → nat_eq f k ≡ false → funding_tickets_at new.funding.items k ≡ funding_tickets_at old.funding.items k)
      → ((k : ℕ) → nat_eq f k ≡ false → flags_of new.active.value k ≡ flags_of old.active.value k)
      → WasCurrent new tickets_of_all c f
  left-was awake backing funding active = grind (arith, nat_tests, nought, worth-left, none)

-- the same of a valuation that is the other but for the weights and the funding tickets of one holder
pub lefts-was : (old new : Valuation) (tickets_of_all : List ℕ) (c f : ℕ) → WasCurrent old tickets_of_all 0 64
    → IsLeft old new c f
    → WasCurrent new tickets_of_all c f
lefts-was old new tickets_of_all c f was left = grind (arith, nat_tests)

-- Take a change in which no weight but that of `base` changed, and nothing active rests on the currency whose funding
-- tickets may be others. Then only the flow's own tickets may be others
pub quiet-computed : (n : Valuation) (tickets_of_all next : List ℕ) (backs funds : List Route)
    (lit : ℕ → Bool) (c f : ℕ)
    → HasInputs n backs funds lit → WasCurrent n tickets_of_all c f
    → ((p : ℕ) → 0 < p → p < 65 → numbers_of n.weights.value p ≡ numbers_of n.seen.value p)
    → (nat_eq c 0 || not (flags_of n.awake.value c)) ≡ true
    →
    ((p : ℕ) → p < 64 → numbers_of next p
    ≡ cond (nat_eq f p) (min (worth_at n.funding.items (flags_of n.active.value) (numbers_of n.values.value)
    (numbers_of n.weights.value) f) (2 ^ 20)) (numbers_of tickets_of_all p))
    → IsReady n next backs funds lit
quiet-computed n tickets_of_all next backs funds lit c f begun was same asleep wrote = record {
  begun = begun;
  awake_is = awake;
  valued = λ p up lt. value p up lt (nat_eq c p) refl;
  shared = λ p lt. wrote p lt ∙ by p lt (nat_eq f p) refl;
  seen_is = λ p up lt. sym (same p up lt);
}
  where
    awake : (p : ℕ) → 0 < p → p < 65 → flags_of n.awake.value p ≡ nat_lt 0 (numbers_of n.weights.value p)
    awake p up lt = was.awake_was p up lt ∙ ap (nat_lt 0) (sym (same p up lt))

    idle : (p : ℕ) → 0 < p → c ≡ p → flags_of n.awake.value p ≡ false
    idle p up e = grind (arith, nat_tests)

    value : (p : ℕ) → 0 < p → p < 65 → (b : Bool) → nat_eq c p ≡ b
        → numbers_of n.values.value p
        ≡ worth_at n.backing.items (flags_of n.awake.value) (numbers_of n.values.value) (numbers_of n.weights.value) p
    value p up lt true e =
        let is = eqb-true c p e in
        let off = idle p up is in
        subst (λ q. flags_of n.awake.value q ≡ false → numbers_of n.values.value q ≡ 0) is
        (was.asleep (subst (λ q. 0 < q) (sym is) up) (subst (λ q. q < 65) (sym is) lt)) off
        ∙ sym (ap (λ b. cond b (sum_by (funding_ticket_worth (numbers_of n.values.value) (numbers_of n.weights.value))
        (funding_tickets_at n.backing.items p)) 0) off)
    value p up lt false e =
        was.valued p up lt e
        ∙ ap (λ b. cond b (sum_by (funding_ticket_worth (numbers_of n.values.value) (numbers_of n.seen.value))
        (funding_tickets_at n.backing.items p)) 0) (sym (was.awake_was p up lt))
        ∙ worth_at-quiet n.backing.items (flags_of n.awake.value) (numbers_of n.values.value) (numbers_of n.seen.value)
        (numbers_of n.weights.value) p (begun.backing.within p lt) same

    by : (p : ℕ) → p < 64 → (b : Bool) → nat_eq f p ≡ b
        → cond b (min (worth_at n.funding.items (flags_of n.active.value) (numbers_of n.values.value)
        (numbers_of n.weights.value) f) (2 ^ 20)) (numbers_of tickets_of_all p)
        ≡ min (worth_at n.funding.items (flags_of n.active.value) (numbers_of n.values.value)
        (numbers_of n.weights.value) p) (2 ^ 20)
    by p lt true e =
        ap (λ q. min (worth_at n.funding.items (flags_of n.active.value) (numbers_of n.values.value)
        (numbers_of n.weights.value) q) (2 ^ 20)) (eqb-true f p e)
    by p lt false e =
        was.shared p lt e
        ∙ ap (λ q. min q (2 ^ 20))
        (worth_at-quiet n.funding.items (flags_of n.active.value) (numbers_of n.values.value) (numbers_of n.seen.value)
        (numbers_of n.weights.value) p (begun.funding.within p (omega arith)) same)

-- a flow that becomes active or idle leaves the funding tickets and the values
module _ (old new : Valuation) (tickets_of_all : List ℕ) (backs funds : List Route)
    (lit : ℕ → Bool) (place : ℕ) (b : Bool)
    (ready : IsReady old tickets_of_all backs funds (flags_of old.active.value)) (begun : HasInputs new backs funds lit)
    (left : (new.backing ≡ old.backing) × (new.funding ≡ old.funding) × (new.awake ≡ old.awake)
    × (new.values ≡ old.values) × (new.seen ≡ old.seen))
    (turned : (k : ℕ) → lit k ≡ cond (nat_eq place k) b (flags_of old.active.value k)) where
  pub turned-was : WasCurrent new tickets_of_all 0 place
  turned-was =
      left-was old new tickets_of_all 0 place left.3 left.4 (ready-was _ _ _ _ _ 0 64 ready) left.2
      (λ k _. ap (λ ss. funding_tickets_at ss.items k) left.0) (λ k _. ap (λ ss. funding_tickets_at ss.items k) left.1)
      (λ k e. begun.active_is k ∙ turned k ∙ ap (λ a. cond a b (flags_of old.active.value k)) e)

  pub turned-quiet : (n : ℕ)
      → ((k : ℕ) → 0 < k → k < 65 → numbers_of new.weights.value k ≡ numbers_of old.weights.value k)
      → place < 64 → length tickets_of_all ≡ 64
      → n ≡ min (worth_at new.funding.items (flags_of new.active.value) (numbers_of new.values.value)
      (numbers_of new.weights.value) place) (2 ^ 20)
      → IsReady new (set tickets_of_all place n) backs funds lit
  turned-quiet n still lt long own =
      quiet-computed new tickets_of_all (set tickets_of_all place n) backs funds lit 0 place begun turned-was
      (λ p up below. still p up below ∙ sym (ready.seen_is p up below) ∙ ap (λ s. numbers_of s.value p) (sym left.4))
      refl
      (λ p below. array-set tickets_of_all place p n 0 (omega arith)
      ∙ ap (λ m. cond (nat_eq place p) m (numbers_of tickets_of_all p)) own)
