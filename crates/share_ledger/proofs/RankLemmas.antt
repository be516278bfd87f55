-- Ranks that are given place by place.
use Rattle.std.proofs.Common.{◌≡◌, ◌<◌, ◌≤◌, ◌+◌, ◌∙◌, ◌&&◌, ◌||◌, ℕ, zero, suc, Bool, true, false, cond, not}
use Rattle.std.proofs.Common.{List, [], ◌∷◌, length, set, get_or, replicate, nat_eq, nat_lt, sum_by}
use Rattle.std.proofs.Common.{refl, sym, ap, subst, true≢false, inl, inr, arith}
use Rattle.std.specs.List.{list_all, list_any}
use Rattle.std.proofs.lemmas.Bool.{ltb-false, eqb-true, lt-ltb, ltb-true, cases_lt}
use Rattle.std.proofs.lemmas.Bool.Decides.{nat_tests}
use Rattle.std.proofs.lemmas.List.{length-set, get_or-replicate, get_or_past}
use Rattle.std.proofs.lemmas.List.Sums.{sum_by-cons, sum_by-set}
use Rattle.share_model.specs.lists.Each.{Each}
use Rattle.share_ledger.specs.declared.funding_tickets.FundingTicket.{FundingTicket}
use Rattle.share_ledger.specs.declared.ranks.Edge.{Edge}
use Rattle.share_ledger.specs.declared.ranks.Ranking.{Ranking}
use Rattle.share_ledger.specs.Ranks.{AreRanks, AreListed, AreLongest, AreGiven, AreRankedTo, is_tall}
use Rattle.share_ledger.specs.Arrays.{numbers_of}
use Rattle.share_ledger.specs.FundingTickets.{funding_tickets_at}
use Rattle.share_ledger.proofs.WeightLemmas.{array-set}

-- the number that pass a test
abbrev pub passing : (ℕ → Bool) → List ℕ → ℕ
passing test xs = sum_by (λ (x : ℕ). cond (test x) 1 0) xs

one-of : (b : Bool) → cond b 1 0 ≤ 1
one-of true = omega arith
one-of false = omega arith

passing-few : (test : ℕ → Bool) (xs : List ℕ) → passing test xs ≤ length xs
passing-few test [] = omega arith
passing-few test (x ∷ xs) =
    let rest = passing-few test xs in
    let here = one-of (test x) in
    omega (arith, sum_by-cons (λ (x : ℕ). cond (test x) 1 0) x xs)

-- one place more passes
pub count-more : (test : ℕ → Bool) (xs : List ℕ) (i y d : ℕ) → i < length xs → test (get_or xs i d) ≡ false
    → test y ≡ true → passing test (set xs i y) ≡ passing test xs + 1
count-more test xs i y d lt off on =
    let sum = sum_by-set (λ (x : ℕ). cond (test x) 1 0) xs i y d lt in
    let before = ap {B = ℕ} (λ b. cond b 1 0) off in
    let after = ap {B = ℕ} (λ b. cond b 1 0) on in
    omega arith

-- if all are counted, each passes
pub all-pass : (test : ℕ → Bool) (xs : List ℕ) (i d : ℕ) → passing test xs ≡ length xs → i < length xs
    → test (get_or xs i d) ≡ true
all-pass test [] i d e lt = absurd (omega arith)
all-pass test (x ∷ xs) i d e lt =
    let sum = sum_by-cons (λ (x : ℕ). cond (test x) 1 0) x xs in
    by (test x) refl (λ rest j lt. all-pass test xs j d rest lt) (omega arith) i (omega (arith, lt))
  where
    by : (b : Bool) → test x ≡ b
        → (passing test xs ≡ length xs → (j : ℕ) → j < length xs → test (get_or xs j d) ≡ true)
        → cond (test x) 1 0 + passing test xs ≡ length xs + 1 → (i : ℕ) → i < length xs + 1
        → test (get_or (x ∷ xs) i d) ≡ true
    by true on rest e zero lt = on
    by true on rest e (suc i) lt =
        let here = ap {B = ℕ} (λ b. cond b 1 0) on in rest (omega arith) i (omega arith)
    by false off rest e i lt =
        let here = ap {B = ℕ} (λ b. cond b 1 0) off in
        let few = passing-few test xs in
        absurd (omega arith)

-- and otherwise one does not
pub one-fails : (test : ℕ → Bool) (xs : List ℕ) (d : ℕ) → (passing test xs ≡ length xs → ⊥)
    → (i : ℕ) × ((i < length xs) × (test (get_or xs i d) ≡ false))
one-fails test [] d no-all = absurd (no-all refl)
one-fails test (x ∷ xs) d no-all =
    by (test x) refl (λ rest. one-fails test xs d rest)
    (λ e. no-all (sum_by-cons (λ (x : ℕ). cond (test x) 1 0) x xs ∙ e ∙ omega arith))
  where
    by : (b : Bool) → test x ≡ b
        → ((passing test xs ≡ length xs → ⊥) → (i : ℕ) × ((i < length xs) × (test (get_or xs i d) ≡ false)))
        → (cond (test x) 1 0 + passing test xs ≡ length xs + 1 → ⊥)
        → (i : ℕ) × ((i < length (x ∷ xs)) × (test (get_or (x ∷ xs) i d) ≡ false))
    by true on rest none =
        let here = ap {B = ℕ} (λ b. cond b 1 0) on in
        let found = rest (λ e. none (omega arith)) in
        (suc found.0, ((let lt = found.1.0 in omega arith), found.1.1))
    by false off rest none = (0, (omega arith, off))

-- a place has no rank yet, and what its funding tickets come from is below this one
abbrev is_due : List (List FundingTicket) → Edge → Ranking → ℕ → ℕ → Bool
is_due ss edge r most p =
    nat_eq (numbers_of r.ranks p) 9 && (not (nat_eq p edge.to) || nat_lt (numbers_of r.ranks edge.from) most)
    && list_all (λ (s : FundingTicket). nat_lt (numbers_of r.ranks s.from) most) (funding_tickets_at ss p)

-- a place gets the rank that it is due
module _ (ss : List (List FundingTicket)) (edge : Edge) (r : Ranking) (most p : ℕ)
    (was : AreRankedTo ss edge r most p) (some : 1 ≤ most) (few : most ≤ 8) (up : 0 < p) (lt : p < 65)
    (from_lt : edge.from < 65) where
  abbrev next : Ranking
  next = record r { ranks = set r.ranks p most; order = set r.order r.count p; count = r.count + 1 }

  below-from : (n : ℕ) (xs : List FundingTicket)
      → list_all (λ (s : FundingTicket). nat_lt (numbers_of r.ranks s.from) n) xs ≡ true
      → Each (λ (s : FundingTicket). numbers_of r.ranks s.from < n) xs
  below-from n [] e = tt
  below-from n (x ∷ xs) e = by (λ t. below-from n xs t) (nat_lt (numbers_of r.ranks x.from) n) refl e
    where
      by : (list_all (λ (s : FundingTicket). nat_lt (numbers_of r.ranks s.from) n) xs ≡ true
          → Each (λ (s : FundingTicket). numbers_of r.ranks s.from < n) xs) → (b : Bool)
          → nat_lt (numbers_of r.ranks x.from) n ≡ b
          → (b && list_all (λ (s : FundingTicket). nat_lt (numbers_of r.ranks s.from) n) xs) ≡ true
          → Each (λ (s : FundingTicket). numbers_of r.ranks s.from < n) (x ∷ xs)
      by rest true b e = (ltb-true _ _ b, rest e)
      by rest false b e = absurd (true≢false (sym e))

  module _ (free : numbers_of r.ranks p ≡ 9) (own : 0 < edge.to → p ≡ edge.to → numbers_of r.ranks edge.from < most)
      (below : Each (λ (s : FundingTicket). numbers_of r.ranks s.from < most) (funding_tickets_at ss p)) where
    wrote : (k : ℕ) → numbers_of (set r.ranks p most) k ≡ cond (nat_eq p k) most (numbers_of r.ranks k)
    wrote k = array-set r.ranks p k most 0 (let long = was.given.ranks_long in omega arith)

    keeps : (n m : ℕ) → n ≤ 9 → n ≤ m → (xs : List FundingTicket)
        → Each (λ (s : FundingTicket). numbers_of r.ranks s.from < n) xs
        → Each (λ (s : FundingTicket). numbers_of (set r.ranks p most) s.from < m) xs
    keeps n m le more [] each = tt
    keeps n m le more (x ∷ xs) each = grind (arith, nat_tests, wrote, keeps n m le more xs each.1)

    counts : r.count + 1 ≡ passing (λ (n : ℕ). nat_lt n 9) (set r.ranks p most)
    counts = grind (arith, nat_tests, count-more, lt-ltb)

    room : r.count < 65
    room = grind (arith, nat_tests, passing-few, length-set, counts)

    at : (k : ℕ) → numbers_of (set r.order r.count p) k ≡ cond (nat_eq r.count k) p (numbers_of r.order k)
    at k = array-set r.order r.count k p 0 (let long = was.given.order_long in let few_more = room in omega arith)

    abbrev spots : ℕ → ℕ
    spots k = cond (nat_eq p k) r.count (was.given.spot k)

    given : AreGiven ss edge next
    given = record {
      ranks_long = length-set r.ranks p most ∙ was.given.ranks_long;
      order_long = length-set r.order r.count p ∙ was.given.order_long;
      base_rank = let w = wrote 0 in let base = was.given.base_rank in grind (arith, nat_tests);
      top = λ k. let w = wrote k in let le = was.given.top k in grind (arith, nat_tests);
      high = λ k above_k below_k. let w = wrote k in let le = was.given.high k above_k below_k in
          grind (arith, nat_tests);
      above = λ k above_k below_k less. funding_tickets k above_k below_k less (nat_eq p k) refl;
      more = λ on less. let w = wrote edge.to in let v = wrote edge.from in let mine = own on in
          let before = was.given.more on in let f = free in let le = was.given.top edge.to in
          grind (arith, nat_tests);
      spot = spots;
      first = let f = was.given.first in grind (arith, nat_tests);
      there = λ k below_k less. let w = wrote k in let before = was.given.there k below_k in let a = at (spots k) in
          grind (arith, nat_tests);
      back = λ i less. let a = at i in let w = wrote (numbers_of (set r.order r.count p) i) in
          let before = was.given.back i in let f = free in grind (arith, nat_tests);
      sorted = λ a b a_lt b_lt less ranked.
          let w = wrote a in let v = wrote b in let low = was.low b b_lt in let f = free in
          let place = was.given.there a a_lt in let before = was.given.sorted a b a_lt b_lt in
          grind (arith, nat_tests);
      counted = counts;
    }
      where
        funding_tickets : (k : ℕ) → 0 < k → k < 65 → numbers_of (set r.ranks p most) k < 9 → (b : Bool) → nat_eq p k ≡ b
            → Each (λ (s : FundingTicket). numbers_of (set r.ranks p most) s.from < numbers_of (set r.ranks p most) k)
            (funding_tickets_at ss k)
        funding_tickets k above_k below_k less true e =
            let n = wrote k ∙ ap (λ b. cond b most (numbers_of r.ranks k)) e in
            keeps most (numbers_of (set r.ranks p most) k) (omega arith) (omega arith) (funding_tickets_at ss k)
            (subst (λ q. Each (λ (s : FundingTicket). numbers_of r.ranks s.from < most) (funding_tickets_at ss q))
            (eqb-true p k e) below)
        funding_tickets k above_k below_k less false e =
            let n = wrote k ∙ ap (λ b. cond b most (numbers_of r.ranks k)) e in
            keeps (numbers_of r.ranks k) (numbers_of (set r.ranks p most) k) (was.given.top k) (omega arith)
            (funding_tickets_at ss k) (was.given.above k above_k below_k (omega arith))

    ranked-place : AreRankedTo ss edge next most (p + 1)
    ranked-place = grind (arith, nat_tests, given, wrote)

  -- the place is due
  pub placed : is_due ss edge r most p ≡ true
      → (r.count < 65) × AreRankedTo ss edge next most (p + 1)
  placed e =
      by (nat_eq (numbers_of r.ranks p) 9) (nat_eq p edge.to) (nat_lt (numbers_of r.ranks edge.from) most)
      refl refl refl e
    where
      by : (a b c : Bool) → nat_eq (numbers_of r.ranks p) 9 ≡ a → nat_eq p edge.to ≡ b
          → nat_lt (numbers_of r.ranks edge.from) most ≡ c
          → (a && (not b || c) && list_all (λ (s : FundingTicket). nat_lt (numbers_of r.ranks s.from) most)
          (funding_tickets_at ss p))
          ≡ true
          → (r.count < 65) × AreRankedTo ss edge next most (p + 1)
      by true b c x y z e =
          let free = eqb-true (numbers_of r.ranks p) 9 x in
          let funding_tickets = below-from most (funding_tickets_at ss p) (rest (not b || c) _ e).1 in
          let mine : 0 < edge.to → p ≡ edge.to → numbers_of r.ranks edge.from < most =
          λ on is. let held = (rest (not b || c) _ e).0 in grind (arith, nat_tests) in
          (room free mine funding_tickets, ranked-place free mine funding_tickets)
        where
          rest : (a b : Bool) → (a && b) ≡ true → (a ≡ true) × (b ≡ true)
          rest true b e = (refl, e)
          rest false b e = absurd (true≢false (sym e))
      by false b c x y z e = absurd (true≢false (sym e))

-- a place is not due: it has a rank, or a chain of this many steps ends there
module _ (ss : List (List FundingTicket)) (edge : Edge) (r : Ranking) (most p : ℕ)
    (was : AreRankedTo ss edge r most p) (some : 1 ≤ most) (up : 0 < p)
    (lt : p < 65) (from_lt : edge.from < 65)
    (within : Each (λ (s : FundingTicket). s.from < 65) (funding_tickets_at ss p)) where
  or_true : (b : Bool) → (b || true) ≡ true
  or_true true = refl
  or_true false = refl

  -- a chain of one step fewer ends where the rank is no lower
  tall-from : (k m : ℕ) → most ≡ m + 1 → k < 65 → nat_lt (numbers_of r.ranks k) most ≡ false
      → is_tall ss edge.from edge.to m k ≡ true
  tall-from k m e below high = grind (arith, nat_tests)

  tall-funding_tickets : (m : ℕ) → most ≡ m + 1 → (xs : List FundingTicket)
      → Each (λ (s : FundingTicket). s.from < 65) xs
      → list_all (λ (s : FundingTicket). nat_lt (numbers_of r.ranks s.from) most) xs ≡ false
      → list_any (λ (s : FundingTicket). is_tall ss edge.from edge.to m s.from) xs ≡ true
  tall-funding_tickets m e [] inside none = absurd (true≢false none)
  tall-funding_tickets m e (x ∷ xs) inside none =
      by (λ n. tall-funding_tickets m e xs inside.1 n) (nat_lt (numbers_of r.ranks x.from) most) refl none
    where
      by : (list_all (λ (s : FundingTicket). nat_lt (numbers_of r.ranks s.from) most) xs ≡ false
          → list_any (λ (s : FundingTicket). is_tall ss edge.from edge.to m s.from) xs ≡ true)
          → (b : Bool) → nat_lt (numbers_of r.ranks x.from) most ≡ b
          → (b && list_all (λ (s : FundingTicket). nat_lt (numbers_of r.ranks s.from) most) xs) ≡ false
          → list_any (λ (s : FundingTicket). is_tall ss edge.from edge.to m s.from) (x ∷ xs) ≡ true
      by rest true f none = rw (rest none) (or_true (is_tall ss edge.from edge.to m x.from))
      by rest false f none = rw (tall-from x.from m e inside.0 f) refl

  tall-here : (m : ℕ) → most ≡ m + 1 → (a b : Bool) → nat_eq p edge.to ≡ a
      → nat_lt (numbers_of r.ranks edge.from) most ≡ b
      → ((not a || b) && list_all (λ (s : FundingTicket). nat_lt (numbers_of r.ranks s.from) most)
      (funding_tickets_at ss p)) ≡ false
      → is_tall ss edge.from edge.to (suc m) p ≡ true
  unfolding is_tall
  tall-here m e true false x y none = rw (x, tall-from edge.from m e from_lt y) refl
  tall-here m e true true x y none =
      rw (tall-funding_tickets m e (funding_tickets_at ss p) within none)
      (or_true (nat_eq p edge.to && is_tall ss edge.from edge.to m edge.from))
  tall-here m e false b x y none =
      rw (tall-funding_tickets m e (funding_tickets_at ss p) within none)
      (or_true (nat_eq p edge.to && is_tall ss edge.from edge.to m edge.from))

  pub passed : is_due ss edge r most p ≡ false
      → AreRankedTo ss edge r most (p + 1)
  passed none = record {
    given = was.given;
    low = was.low;
    longest = λ k n above_k below_k less le end.
        by k n above_k below_k less le end (nat_eq p k) (nat_eq n most) refl refl;
  }
    where
      here : (m : ℕ) → most ≡ m → numbers_of r.ranks p ≡ 9 → is_tall ss edge.from edge.to m p ≡ true
      here zero e free = absurd (omega arith)
      here (suc m) e free =
          tall-here m (omega arith) (nat_eq p edge.to) (nat_lt (numbers_of r.ranks edge.from) most) refl refl
          (rw (nine (numbers_of r.ranks p) free) at none)
        where
          nine : (n : ℕ) → n ≡ 9 → nat_eq n 9 ≡ true
          nine n e = grind (arith, nat_tests)

      by : (k n : ℕ) → 0 < k → k < 65 → n < numbers_of r.ranks k → n ≤ most → (n ≡ most → k < p + 1)
          → (a b : Bool) → nat_eq p k ≡ a → nat_eq n most ≡ b → is_tall ss edge.from edge.to n k ≡ true
      by k n above_k below_k less le end true true e f =
          let is = eqb-true p k e in
          let all = eqb-true n most f in
          subst (λ q. is_tall ss edge.from edge.to n q ≡ true) is (here n (sym all) (free (ap (numbers_of r.ranks) is)))
        where
          -- a place that has a rank has none above this one
          free : numbers_of r.ranks p ≡ numbers_of r.ranks k → numbers_of r.ranks p ≡ 9
          free own =
              let all = eqb-true n most f in let le = was.given.top p in let low = was.low p lt in grind arith
      by k n above_k below_k less le end a b e f =
          was.longest k n above_k below_k less le (λ full. let last = end full in grind (arith, nat_tests))

-- before the first round
abbrev unranked : List ℕ
unranked = replicate 65 9

abbrev unlisted : List ℕ
unlisted = replicate 65 0

pub ranks-begun : (ss : List (List FundingTicket)) (edge : Edge) → edge.to < 65
    → AreRankedTo ss edge (record { ranks = set unranked 0 0; order = unlisted; count = 1 }) 1 1
unfolding is_tall
ranks-begun ss edge to_lt = record {
  given = record {
    ranks_long = refl;
    order_long = refl;
    base_rank = refl;
    top = λ p. let w = wrote p in let n = others p in grind (arith, nat_tests);
    high = λ p up lt. let w = nine p up lt in omega arith;
    above = λ p up lt less. let w = nine p up lt in absurd (omega arith);
    more = λ up less. let w = nine edge.to up to_lt in absurd (omega arith);
    spot = λ k. 0;
    first = refl;
    there = λ p lt less. let w = nine p in let none : get_or unlisted 0 0 ≡ 0 = refl in grind arith;
    back = at-first;
    sorted = λ a b a_lt b_lt less ranked. let w = nine b in absurd (grind arith);
    counted = refl;
  };
  low = λ p lt less. let w = nine p in grind arith;
  longest = tall;
}
  where
    wrote : (k : ℕ) → get_or (set unranked 0 0) k 0 ≡ cond (nat_eq 0 k) 0 (get_or unranked k 0)
    wrote k = array-set unranked 0 k 0 0 (omega arith)

    others : (p : ℕ) → get_or unranked p 0 ≤ 9
    others p = elim (cases_lt p 65) [
      | inl inside ↦ let n : get_or unranked p 0 ≡ 9 = get_or-replicate 65 p 9 0 inside in omega arith
      | inr past ↦ let n : get_or unranked p 0 ≡ 0 = get_or_past unranked p 0 past in omega arith
    ]

    nine : (p : ℕ) → 0 < p → p < 65 → get_or (set unranked 0 0) p 0 ≡ 9
    nine p up lt =
        let w = wrote p in let n : get_or unranked p 0 ≡ 9 = get_or-replicate 65 p 9 0 lt in
        grind (arith, nat_tests)

    at-first : (i : ℕ) → i < 1 → (get_or unlisted i 0 < 65)
        × ((get_or (set unranked 0 0) (get_or unlisted i 0) 0 < 9) × (0 ≡ i))
    at-first zero less = (omega arith, (omega arith, refl))
    at-first (suc i) less = absurd (omega arith)

    tall : (p n : ℕ) → 0 < p → p < 65 → n < get_or (set unranked 0 0) p 0 → n ≤ 1 → (n ≡ 1 → p < 1)
        → is_tall ss edge.from edge.to n p ≡ true
    tall p zero up lt less le end = let apart : nat_eq p 0 ≡ false = grind (arith, nat_tests) in ap not apart
    tall p (suc n) up lt less le end = let full = end (omega arith) in absurd (omega arith)

-- from one round to the next
pub next-round : (ss : List (List FundingTicket)) (edge : Edge) (r : Ranking) (most : ℕ)
    → AreRankedTo ss edge r most 65 → AreRankedTo ss edge r (most + 1) 1
next-round ss edge r most was = grind (arith, nat_tests)

-- if all places are listed
module _ (ss : List (List FundingTicket)) (edge : Edge) (r : Ranking) (most : ℕ) (all : AreRankedTo ss edge r most 65)
    (done : r.count ≡ 65) where
  ranked-all : (p : ℕ) → p < 65 → numbers_of r.ranks p < 9
  ranked-all p lt =
      ltb-true (numbers_of r.ranks p) 9
      (all-pass (λ (n : ℕ). nat_lt n 9) r.ranks p 0 (sym all.given.counted ∙ done ∙ sym all.given.ranks_long)
      (let long = all.given.ranks_long in omega arith))

  pub all-ranks : AreRanks ss (numbers_of r.ranks)
  all-ranks = grind (arith, nat_tests, cases_lt, ranked-all, get_or_past)

  pub all-longest : AreLongest ss edge.from edge.to (numbers_of r.ranks)
  all-longest p n up lt less =
      let le = all.low p lt (ranked-all p lt) in all.longest p n up lt less (omega arith) (λ full. lt)

  pub all-more : edge.to < 65 → 0 < edge.to → numbers_of r.ranks edge.from < numbers_of r.ranks edge.to
  all-more lt up = all.given.more up (ranked-all edge.to lt)

  pub all-listed : AreListed (numbers_of r.ranks) (numbers_of r.order)
  all-listed = grind (arith, nat_tests, ranked-all)

-- if one place is not, a chain of eight steps ends there
pub some-deep : (ss : List (List FundingTicket)) (edge : Edge) (r : Ranking) → AreRankedTo ss edge r 9 1
    → (r.count ≡ 65 → ⊥)
    → (p : ℕ) × ((0 < p) × ((p < 65) × (is_tall ss edge.from edge.to 8 p ≡ true)))
some-deep ss edge r was not-all =
    let one =
    one-fails (λ (n : ℕ). nat_lt n 9) r.ranks 0 (λ e. not-all (was.given.counted ∙ e ∙ was.given.ranks_long)) in
    let lt : one.0 < 65 = (let inside = one.1.0 in let long = was.given.ranks_long in omega arith) in
    let high = ltb-false (numbers_of r.ranks one.0) 9 one.1.1 in
    let up = above one.0 high in
    (one.0, (up, (lt, was.longest one.0 8 up lt (omega arith) (omega arith) (λ full. absurd (omega arith)))))
  where
    above : (p : ℕ) → 9 ≤ numbers_of r.ranks p → 0 < p
    above zero high = let base = was.given.base_rank in absurd (omega arith)
    above (suc p) high = omega arith
