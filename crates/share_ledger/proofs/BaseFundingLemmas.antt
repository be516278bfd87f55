-- A flow that becomes active or idle if its funding tickets come from `base` alone: nothing else changes.
use Rattle.std.proofs.Common.{◌≡◌, ◌<◌, ◌*◌, ◌/◌, ℕ, zero, suc, Bool, true, false, cond, List, [], ◌∷◌, map}
use Rattle.std.proofs.Common.{nat_eq, get_or, refl, sym, ap, ◌∙◌, arith}
use Rattle.std.specs.List.{list_all}
use Rattle.std.proofs.lemmas.Bool.Decides.{nat_tests}
use Rattle.std.proofs.lemmas.List.Sums.{sum_by-cons}
use Rattle.share_model.specs.declared.funding.OpenFlow.{OpenFlow}
use Rattle.share_model.specs.funding.Graph.{NameBytes}
use Rattle.share_model.specs.funding.Changes.{is_open_as, active_as, with_activity}
use Rattle.share_model.specs.lists.Change.{change_first}
use Rattle.share_model.specs.lists.Each.{Each}
use Rattle.share_model.proofs.lemmas.lists.SumLemmas.{sum_by-same_of}
use Rattle.share_ledger.specs.declared.valuation.Valuation.{Valuation}
use Rattle.share_ledger.specs.declared.routes.Route.{Route}
use Rattle.share_ledger.specs.declared.funding_tickets.FundingTicket.{FundingTicket}
use Rattle.share_ledger.specs.Valuations.{IsReady}
use Rattle.share_ledger.specs.FundingTickets.{IsFundingTicketWithin, funding_ticket_worth, funding_tickets_at}
use Rattle.share_ledger.specs.FundingTickets.{amount_from, worth_at}
use Rattle.share_ledger.proofs.FirstItemLemmas.{IsFirstAt}

-- funding tickets of `base` count for no other place
pub amount_from-base : (ss : List FundingTicket) (k : ℕ) → list_all (λ (s : FundingTicket). nat_eq s.from 0) ss ≡ true
    → 0 < k → amount_from ss k ≡ 0
amount_from-base [] k all above = refl
amount_from-base (s ∷ ss) k all above = grind (arith, nat_tests, sum_by-cons, amount_from-base ss k)

-- weights of other places than that of `base` alone matter to what funding tickets are worth
pub worth_at-quiet : (ss : List (List FundingTicket)) (on : ℕ → Bool) (v w u : ℕ → ℕ) (p : ℕ)
    → Each IsFundingTicketWithin (funding_tickets_at ss p) → ((k : ℕ) → 0 < k → k < 65 → u k ≡ w k)
    → worth_at ss on v w p ≡ worth_at ss on v u p
worth_at-quiet ss on v w u p within same =
    ap (λ n. cond (on p) n 0)
    (sum_by-same_of IsFundingTicketWithin (funding_ticket_worth v w) (funding_ticket_worth v u)
    (funding_tickets_at ss p) within
    (λ s ok. by (nat_eq s.from 0) s refl ok.from_place))
  where
    above : (n : ℕ) → nat_eq n 0 ≡ false → 0 < n
    above n e = grind (arith, nat_tests)

    by : (b : Bool) → (s : FundingTicket) → nat_eq s.from 0 ≡ b → s.from < 65
        → cond b s.amount (v s.from * s.amount / w s.from) ≡ cond b s.amount (v s.from * s.amount / u s.from)
    by true s e lt = refl
    by false s e lt = ap (λ n. v s.from * s.amount / n) (sym (same s.from (above s.from e) lt))

-- the activity of the flow at a place is set
pub activity-turned : (f : ℕ) (a : Bool) (es : List (NameBytes × OpenFlow)) (i k : ℕ) → IsFirstAt (is_open_as f) es i
    → get_or (map (λ (e : NameBytes × OpenFlow). e.1.active) (with_activity f a es)) k false
    ≡ cond (nat_eq i k) a (get_or (map (λ (e : NameBytes × OpenFlow). e.1.active) es) k false)
unfolding change_first
activity-turned f a [] i k first = absurd first
activity-turned f a (x ∷ es) zero zero first =
    ap (λ t. get_or (map (λ (e : NameBytes × OpenFlow). e.1.active)
    (cond t (active_as a x ∷ es) (x ∷ with_activity f a es))) 0 false) first
    ∙ refl
activity-turned f a (x ∷ es) zero (suc k) first =
    ap (λ t. get_or (map (λ (e : NameBytes × OpenFlow). e.1.active)
    (cond t (active_as a x ∷ es) (x ∷ with_activity f a es))) (suc k) false) first
    ∙ sym (ap (λ t. cond t a (get_or (map (λ (e : NameBytes × OpenFlow). e.1.active) es) k false)) (differ k))
  where
    differ : (k : ℕ) → nat_eq 0 (suc k) ≡ false
    differ k = grind (arith, nat_tests)
activity-turned f a (x ∷ es) (suc i) zero first =
    ap (λ t. get_or (map (λ (e : NameBytes × OpenFlow). e.1.active)
    (cond t (active_as a x ∷ es) (x ∷ with_activity f a es))) 0 false) first.0
    ∙ sym (ap (λ t. cond t a x.1.active) (differ i))
  where
    differ : (k : ℕ) → nat_eq (suc k) 0 ≡ false
    differ k = grind (arith, nat_tests)
activity-turned f a (x ∷ es) (suc i) (suc k) first =
    ap (λ t. get_or (map (λ (e : NameBytes × OpenFlow). e.1.active)
    (cond t (active_as a x ∷ es) (x ∷ with_activity f a es))) (suc k) false) first.0
    ∙ activity-turned f a es i k first.1
    ∙ sym (ap (λ t. cond t a (get_or (map (λ (e : NameBytes × OpenFlow). e.1.active) es) k false)) (both i k))
  where
    both : (n m : ℕ) → nat_eq (suc n) (suc m) ≡ nat_eq n m
    both n m = grind (arith, nat_tests)

-- the same funding tickets and numbers under activity that is the same
pub relit : (n : Valuation) (tickets_of_all : List ℕ) (backs funds : List Route) (lit other : ℕ → Bool)
    → IsReady n tickets_of_all backs funds lit → ((k : ℕ) → lit k ≡ other k)
    → IsReady n tickets_of_all backs funds other
relit n tickets_of_all backs funds lit other ready same = record {
  begun = record {
    backing = ready.begun.backing;
    funding = ready.begun.funding;
    ranked = ready.begun.ranked;
    listed = ready.begun.listed;
    active_is = λ k. ready.begun.active_is k ∙ same k;
    counted = ready.begun.counted;
    small = ready.begun.small;
  };
  awake_is = ready.awake_is;
  valued = ready.valued;
  shared = ready.shared;
  seen_is = ready.seen_is;
}
