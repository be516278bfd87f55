-- Sums over the funding tickets of one holder.
use Rattle.std.proofs.Common.{◌≡◌, Fits, w32, ◌≤◌, ◌<◌, ◌^◌, ◌+◌, ◌-◌, ℕ, zero, suc, Bool, true, false, cond}
use Rattle.std.proofs.Common.{nat_eq, List, [], ◌∷◌, take, set, sum_by, length, get_or, ap, arith, refl}
use Rattle.std.proofs.lemmas.Bool.Decides.{nat_tests}
use Rattle.std.proofs.lemmas.List.{get_or-take, get_or-set_other, length-take, length-set}
use Rattle.std.proofs.lemmas.Grind.{get_or-set_at}
use Rattle.std.proofs.lemmas.List.Sums.{sum_by-take-le, sum_by_more, sum_by-set}
use Rattle.std.proofs.Math.Seq.{take-set-lt}
use Rattle.std.proofs.lemmas.Bool.{eq-eqb}
use Rattle.share_model.specs.lists.Each.{Each}
use Rattle.share_ledger.specs.declared.funding_tickets.FundingTicket.{FundingTicket}
use Rattle.share_ledger.specs.FundingTickets.{is_like, IsFundingTicketWithin, amount_from}
use Rattle.share_ledger.proofs.FirstItemLemmas.{IsFirstAt}
use Rattle.share_ledger.proofs.ListLemmas.{Each-at, sum_by-bound}

-- the amounts of at most sixteen funding tickets are small
pub amount_from-bound : (ss : List FundingTicket) (p : ℕ) → Each IsFundingTicketWithin ss → length ss ≤ 16
    → amount_from ss p ≤ 2 ^ 24
amount_from-bound ss p within few =
    let all = sum_by-bound IsFundingTicketWithin (λ (s : FundingTicket). cond (nat_eq p s.from) s.amount 0) (2 ^ 20) ss
    within
    (λ s w. by (nat_eq p s.from) s w.small) in
    omega arith
  where
    by : (b : Bool) (s : FundingTicket) → s.amount ≤ 2 ^ 20 → cond b s.amount 0 ≤ 2 ^ 20
    by true s small = small
    by false s small = omega arith

fits_sum : (a b c : ℕ) → a ≤ 2 ^ 31 → b ≤ 2 ^ 24 → c ≤ 2 ^ 20 → Fits w32 (a + b + c)
fits_sum a b c p q r = omega arith

pub add_all-fits : (ss : List FundingTicket) (i : ℕ) (d : FundingTicket) (start held : ℕ → ℕ)
    → Each IsFundingTicketWithin ss
    → length ss ≤ 16 → i < length ss → ((p : ℕ) → p < 65 → start p ≤ 2 ^ 31)
    → ((p : ℕ) → p < 65 → held p ≡ start p + amount_from (take i ss) p)
    → Fits w32 (held (get_or ss i d).from + (get_or ss i d).amount)
add_all-fits ss i d start held within few lt small summed =
    let w = Each-at IsFundingTicketWithin ss i d within lt in
    let p = (get_or ss i d).from in
    let all = amount_from-bound ss p within few in
    let part = sum_by-take-le (λ (s : FundingTicket). cond (nat_eq p s.from) s.amount 0) ss i in
    let some : amount_from (take i ss) p ≤ 2 ^ 24 = omega (arith, all, part) in
    rw (summed p w.from_place)
    (fits_sum (start p) (amount_from (take i ss) p) (get_or ss i d).amount (small p w.from_place) some w.small)

pub subtract_all-fits : (ss : List FundingTicket) (i : ℕ) (d : FundingTicket) (start held : ℕ → ℕ)
    → Each IsFundingTicketWithin ss
    → i < length ss → ((p : ℕ) → p < 65 → amount_from ss p ≤ start p)
    → ((p : ℕ) → p < 65 → held p + amount_from (take i ss) p ≡ start p)
    → (get_or ss i d).amount ≤ held (get_or ss i d).from
subtract_all-fits ss i d start held within lt all summed =
    let w = Each-at IsFundingTicketWithin ss i d within lt in
    let p = (get_or ss i d).from in
    let term : FundingTicket → ℕ = λ s. cond (nat_eq p s.from) s.amount 0 in
    let more = sum_by_more term ss i d lt in
    let part = sum_by-take-le term ss (i + 1) in
    let here : term (get_or ss i d) ≡ (get_or ss i d).amount =
    ap {B = ℕ} (λ b. cond b (get_or ss i d).amount 0) (eq-eqb p p refl) in
    let whole = all p w.from_place in
    let now = summed p w.from_place in
    omega (arith, more, part, here, whole, now)

-- the first that passes is in the list, and passes
pub first-passes : {X : Type 0} (p : X → Bool) (xs : List X) (i : ℕ) (d : X) → IsFirstAt p xs i
    → p (get_or xs i d) ≡ true
first-passes p [] i d first = absurd first
first-passes p (x ∷ xs) zero d first = first
first-passes p (x ∷ xs) (suc i) d first = first-passes p xs i d first.1

pub first-below : {X : Type 0} (p : X → Bool) (xs : List X) (i : ℕ) → IsFirstAt p xs i → i < length xs
first-below p [] i first = absurd first
first-below p (x ∷ xs) zero first = omega arith
first-below p (x ∷ xs) (suc i) first = let rest = first-below p xs i first.1 in omega arith

pub like-same : (s o : FundingTicket) → is_like s o ≡ true → o ≡ s
like-same s o e = grind (arith, nat_tests)

-- the last item takes the place of the one that is taken out
pub sum-taken_out : {X : Type 0} (F : X → ℕ) (xs : List X) (n i : ℕ) (d : X) → n ≤ length xs → i < n
    → sum_by F (take (n - 1) (set xs i (get_or xs (n - 1) d))) + F (get_or xs i d) ≡ sum_by F (take n xs)
sum-taken_out F xs n i d fits lt =
    let last = get_or xs (n - 1) d in
    let ys = set xs i last in
    let long : length ys ≡ length xs = length-set xs i last in
    let inside : n - 1 < length ys = omega arith in
    let one = sum_by_more F ys (n - 1) d inside in
    let same : n - 1 + 1 ≡ n = omega arith in
    let at = stays xs n i d fits lt in
    let whole : sum_by F (take n ys) ≡ sum_by F (set (take n xs) i last) = ap (sum_by F) (take-set-lt n xs i last lt) in
    let short : i < length (take n xs) = omega (arith, length-take n xs) in
    let swap = sum_by-set F (take n xs) i last d short in
    let there : F (get_or (take n xs) i d) ≡ F (get_or xs i d) = ap F (get_or-take n xs i d lt) in
    let end : F (get_or ys (n - 1) d) ≡ F last = ap F at in
    let first : sum_by F (take (n - 1 + 1) ys) ≡ sum_by F (take n ys) = ap (λ k. sum_by F (take k ys)) same in
    omega (arith, one, whole, swap, there, end, first)
  where
    stays : {X : Type 0} (xs : List X) (n i : ℕ) (d : X) → n ≤ length xs → i < n
        → get_or (set xs i (get_or xs (n - 1) d)) (n - 1) d ≡ get_or xs (n - 1) d
    stays xs n i d fits lt = by (nat_eq (n - 1) i) refl
      where
        by : (b : Bool) → nat_eq (n - 1) i ≡ b
            → get_or (set xs i (get_or xs (n - 1) d)) (n - 1) d ≡ get_or xs (n - 1) d
        by true e = get_or-set_at xs i (n - 1) (get_or xs (n - 1) d) d (grind (arith, nat_tests)) (omega arith)
        by false e = get_or-set_other xs i (n - 1) (get_or xs (n - 1) d) d (grind (arith, nat_tests))
