-- Funding tickets that are given one by one, and what follows if none is awake yet.
use Rattle.std.proofs.Common.{◌≡◌, ◌≤◌, ◌<◌, ◌+◌, ℕ, zero, suc, Bool, true, false, cond, ◌&&◌, List, [], ◌∷◌, ◌++◌}
use Rattle.std.proofs.Common.{nat_eq, nat_lt, take, sum_by, length, get_or, map, refl, sym, ap, subst, ◌∙◌, arith}
use Rattle.std.proofs.Common.{option_map}
use Rattle.std.proofs.Common.{Some, slice_get}
use Rattle.std.proofs.lemmas.Bool.Decides.{nat_tests}
use Rattle.std.proofs.lemmas.List.Sums.{sum_by-cons, sum_by_push, sum_by_more}
use Rattle.std.proofs.lemmas.Option.{same_Some}
use Rattle.std.proofs.lemmas.Bool.{and_right, eqb-true}
use Rattle.share_model.specs.lists.Each.{Each}
use Rattle.share_model.proofs.lemmas.lists.FirstItemLemmas.{each-append}
use Rattle.share_model.specs.declared.funding.OpenFlow.{OpenFlow}
use Rattle.share_model.specs.funding.Graph.{NameBytes, Graph}
use Rattle.share_ledger.specs.declared.routes.Route.{Route}
use Rattle.share_ledger.specs.declared.funding_tickets.FundingTicket.{FundingTicket}
use Rattle.share_ledger.specs.Routes.{weight_from}
use Rattle.share_ledger.specs.FundingTickets.{funding_ticket_of, funding_tickets_at}
use Rattle.share_ledger.specs.Valuations.{activity_of}

turned : (a b : ℕ) → nat_eq a b ≡ nat_eq b a
turned a b = grind (arith, nat_tests)

-- One funding ticket more
module _ (ss next : List (List FundingTicket)) (r : Route)
    (joined : (k : ℕ) → funding_tickets_at next k
    ≡ cond (nat_eq r.to k) (funding_tickets_at ss k ++ funding_ticket_of r ∷ []) (funding_tickets_at ss k)) where
  pub sum-joined : (F : FundingTicket → ℕ) (p : ℕ)
      → sum_by F (funding_tickets_at next p) ≡ sum_by F (funding_tickets_at ss p)
      + cond (nat_eq p r.to) (F (funding_ticket_of r)) 0
  sum-joined F p = grind (arith, nat_tests, turned, sum_by_push)

  pub each-joined : (P : ℕ → FundingTicket → Type 0) (p : ℕ) → Each (P p) (funding_tickets_at ss p)
      → (r.to ≡ p → P p (funding_ticket_of r)) → Each (P p) (funding_tickets_at next p)
  each-joined P p each own = subst (Each (P p)) (sym (joined p)) (by (nat_eq r.to p) refl)
    where
      by : (b : Bool) → nat_eq r.to p ≡ b
          → Each (P p) (cond b (funding_tickets_at ss p ++ funding_ticket_of r ∷ []) (funding_tickets_at ss p))
      by true e = each-append (P p) (funding_tickets_at ss p) (funding_ticket_of r ∷ []) each
          (own (eqb-true r.to p e), tt)
      by false e = each

-- the routes so far are one more
pub sum-joined_more : (rs : List Route) (i : ℕ) (d : Route) (ss next : List (List FundingTicket))
    (F : FundingTicket → ℕ) (p : ℕ)
    → i < length rs
    → ((k : ℕ) → funding_tickets_at next k
    ≡ cond (nat_eq (get_or rs i d).to k) (funding_tickets_at ss k ++ funding_ticket_of (get_or rs i d) ∷ [])
    (funding_tickets_at ss k))
    → sum_by F (funding_tickets_at ss p)
    ≡ sum_by (λ (r : Route). cond (nat_eq p r.to) (F (funding_ticket_of r)) 0) (take i rs)
    → sum_by F (funding_tickets_at next p)
    ≡ sum_by (λ (r : Route). cond (nat_eq p r.to) (F (funding_ticket_of r)) 0) (take (i + 1) rs)
sum-joined_more rs i d ss next F p lt joined so_far =
    sum-joined ss next (get_or rs i d) joined F p
    ∙ ap (λ n. n + cond (nat_eq p (get_or rs i d).to) (F (funding_ticket_of (get_or rs i d))) 0) so_far
    ∙ sym (sum_by_more (λ (r : Route). cond (nat_eq p r.to) (F (funding_ticket_of r)) 0) rs i d lt)

-- nothing is gathered if nothing is flagged
pub weight_from-none : (rs : List Route) (flag : ℕ → Bool) (p : ℕ) → ((k : ℕ) → flag k ≡ false) → weight_from rs flag p
    ≡ 0
unfolding weight_from
weight_from-none rs flag p dark = all rs
  where
    all : (qs : List Route) → sum_by (λ (r : Route). cond (nat_eq p r.from && flag r.to) r.amount 0) qs ≡ 0
    all [] = refl
    all (r ∷ qs) =
        let here = ap {B = ℕ} (λ b. cond b r.amount 0) (and_right (nat_eq p r.from) (flag r.to) (dark r.to)) in
        let rest = all qs in
        omega (arith, sum_by-cons (λ (r : Route). cond (nat_eq p r.from && flag r.to) r.amount 0) r qs)

-- the flows before a place, if one more is looked at
pub before-wakes : (lit held next : ℕ → Bool) (i : ℕ) → ((k : ℕ) → held k ≡ (nat_lt k i && lit k)) → lit i ≡ true
    → ((k : ℕ) → next k ≡ cond (nat_eq i k) true (held k)) → (k : ℕ) → next k ≡ (nat_lt k (i + 1) && lit k)
before-wakes lit held next i was own wakes k = wakes k ∙ by (nat_eq i k) refl
  where
    inside : (i k : ℕ) → i ≡ k → nat_lt k (i + 1) ≡ true
    inside i k e = grind (arith, nat_tests)

    same : (i k : ℕ) → nat_eq i k ≡ false → nat_lt k i ≡ nat_lt k (i + 1)
    same i k e = grind (arith, nat_tests)

    by : (b : Bool) → nat_eq i k ≡ b → cond b true (held k) ≡ (nat_lt k (i + 1) && lit k)
    by true e =
        let at = eqb-true i k e in
        sym (ap (λ b. b && lit k) (inside i k at) ∙ ap lit (sym at) ∙ own)
    by false e = was k ∙ ap (λ b. b && lit k) (same i k e)

pub before-idle : (lit held : ℕ → Bool) (i : ℕ) → ((k : ℕ) → held k ≡ (nat_lt k i && lit k)) → lit i ≡ false
    → (k : ℕ) → held k ≡ (nat_lt k (i + 1) && lit k)
before-idle lit held i was own k = was k ∙ by (nat_eq i k) refl
  where
    same : (i k : ℕ) → nat_eq i k ≡ false → nat_lt k i ≡ nat_lt k (i + 1)
    same i k e = grind (arith, nat_tests)

    by : (b : Bool) → nat_eq i k ≡ b → (nat_lt k i && lit k) ≡ (nat_lt k (i + 1) && lit k)
    by true e =
        let dark = ap lit (sym (eqb-true i k e)) ∙ own in
        and_right (nat_lt k i) (lit k) dark ∙ sym (and_right (nat_lt k (i + 1)) (lit k) dark)
    by false e = ap (λ b. b && lit k) (same i k e)

-- beyond the flows none is active
beyond : {X : Type 0} (xs : List X) (d : X) (k : ℕ) → length xs ≤ k → get_or xs k d ≡ d
beyond [] d k le = refl
beyond (x ∷ xs) d zero le = absurd (omega arith)
beyond (x ∷ xs) d (suc k) le = beyond xs d k (omega arith)

length-parts : (es : List (NameBytes × OpenFlow)) → length (map
    (λ (e : NameBytes × OpenFlow). e.1.active) es) ≡ length es
length-parts [] = refl
length-parts (e ∷ es) = let rest = length-parts es in omega arith

pub activity-beyond : (g : Graph) (k : ℕ) → length g.flows ≤ k → activity_of g k ≡ false
activity-beyond g k le = grind (arith, nat_tests, length-parts g.flows, beyond)

-- the activity of the flow at a place
pub activity-here : (g : Graph) (i : ℕ) (b : Bool)
    → option_map (λ (e : NameBytes × OpenFlow). e.1.active) (slice_get g.flows i) ≡ Some b → activity_of g i ≡ b
activity-here g i b e = at g.flows i e
  where
    at : (es : List (NameBytes × OpenFlow)) (i : ℕ)
        → option_map (λ (e : NameBytes × OpenFlow). e.1.active) (slice_get es i) ≡ Some b
        → get_or (map (λ (e : NameBytes × OpenFlow). e.1.active) es) i false ≡ b
    at [] i e = absurd cc
    at (x ∷ es) zero e = same_Some x.1.active b e
    at (x ∷ es) (suc i) e = at es i e
