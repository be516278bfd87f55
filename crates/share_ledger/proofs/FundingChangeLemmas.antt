-- One funding ticket more or fewer: sums over routes that grow, and what weighs on the places.
use Rattle.std.proofs.Common.{◌≡◌, ◌≤◌, ◌<◌, ◌+◌, ◌^◌, ℕ, Bool, true, false, cond, ◌&&◌, List, [], ◌∷◌, ◌++◌}
use Rattle.std.proofs.Common.{nat_eq, nat_lt, nat_le, sum_by, length, refl, sym, ap, subst, ◌∙◌}
use Rattle.std.proofs.Common.{arith}
use Rattle.std.proofs.lemmas.Bool.Decides.{nat_tests}
use Rattle.std.proofs.lemmas.List.Sums.{sum_by-cons}
use Rattle.std.proofs.lemmas.Bool.{and_parts, eqb-true, le-leb, leb-true, lt-ltb, ltb-true}
use Rattle.share_model.specs.funding.Graph.{Graph}
use Rattle.share_model.specs.funding.WellFormed.{IsWellFormed}
use Rattle.share_model.specs.lists.Each.{Each}
use Rattle.share_model.proofs.lemmas.lists.FirstItemLemmas.{each_map}
use Rattle.share_ledger.specs.declared.routes.Route.{Route}
use Rattle.share_ledger.specs.declared.funding_tickets.FundingTicket.{FundingTicket}
use Rattle.share_ledger.specs.Valuations.{GrowsBy}
use Rattle.share_ledger.specs.Routes.{IsRouteWithin, amended, weight_from}
use Rattle.share_ledger.specs.FundingTickets.{AreTicketed, IsFundingTicketWithin, funding_ticket_of, funding_tickets_at}
use Rattle.share_ledger.specs.FundingTickets.{AreCounted, backs_of}
use Rattle.share_ledger.specs.Ranks.{AreRanks}
use Rattle.share_ledger.specs.FundingTickets.{funds_of}
use Rattle.share_ledger.proofs.RouteListLemmas.{weight_from-bound}
use Rattle.share_ledger.proofs.RouteBoundLemmas.{done-within, done-few}
use Rattle.share_ledger.proofs.FundingFillLemmas.{sum-joined, each-joined}
use Rattle.share_ledger.proofs.RouteWorthLemmas.{cond_and}

-- one funding ticket more
pub ticketed-more : (rs more : List Route) (r : Route) (ss next : List (List FundingTicket)) → AreTicketed rs ss
    → IsRouteWithin r
    → GrowsBy true rs more r
    → ((k : ℕ) → funding_tickets_at next k
    ≡ cond (nat_eq r.to k) (funding_tickets_at ss k ++ funding_ticket_of r ∷ []) (funding_tickets_at ss k))
    → length next ≡ 65 → AreTicketed more next
ticketed-more rs more r ss next s within grows joined long = record {
  ticketed = λ F p lt. sum-joined ss next r joined F p
      ∙ ap (λ n. n + cond (nat_eq p r.to) (F (funding_ticket_of r)) 0) (s.ticketed F p lt)
      ∙ sym (grows (λ (q : Route). cond (nat_eq p q.to) (F (funding_ticket_of q)) 0));
  within = λ p lt. each-joined ss next r joined (λ _ s. IsFundingTicketWithin s) p (s.within p lt)
      (λ e. record { from_place = within.from_place; small = within.small });
  places = long;
}

pub ranked-more : (ss next : List (List FundingTicket)) (r : Route) (rank : ℕ → ℕ) → AreRanks ss rank → rank r.from
    < rank r.to
    → ((k : ℕ) → funding_tickets_at next k
    ≡ cond (nat_eq r.to k) (funding_tickets_at ss k ++ funding_ticket_of r ∷ []) (funding_tickets_at ss k))
    → AreRanks next rank
ranked-more ss next r rank ranked before joined = record {
  low = ranked.low;
  high = ranked.high;
  above = λ p up lt. each-joined ss next r joined (λ p (s : FundingTicket). rank s.from < rank p) p
      (ranked.above p up lt)
      (λ e. subst (λ k. rank r.from < rank k) e before);
}

-- Funding tickets that go
fails-zero : {X : Type 0} (test : X → Bool) (xs : List X) → Each (λ x. test x ≡ true) xs
    → sum_by (λ x. cond (test x) 0 1) xs ≡ 0
fails-zero test [] each = refl
fails-zero test (x ∷ xs) each =
    let here = ap {B = ℕ} (λ b. cond b 0 1) each.0 in
    let rest = fails-zero test xs each.1 in
    omega (arith, sum_by-cons (λ x. cond (test x) 0 1) x xs)

zero-fails : {X : Type 0} (test : X → Bool) (xs : List X) → sum_by (λ x. cond (test x) 0 1) xs ≡ 0
    → Each (λ x. test x ≡ true) xs
zero-fails test [] none = tt
zero-fails test (x ∷ xs) none =
    let more = sum_by-cons (λ x. cond (test x) 0 1) x xs in
    let here : ◌≡◌ {A = ℕ} (cond (test x) 0 1) 0 = omega (arith, more) in
    (by (test x) here, zero-fails test xs (omega (arith, more)))
  where
    by : (b : Bool) → ◌≡◌ {A = ℕ} (cond b 0 1) 0 → b ≡ true
    by true e = refl
    by false e = absurd (omega arith)

-- a property of each funding ticket is one of those that are left
each-left : (P : FundingTicket → Type 0) (test : FundingTicket → Bool) (all left : List FundingTicket)
    (out : FundingTicket)
    → ((s : FundingTicket) → P s → test s ≡ true) → ((s : FundingTicket) → test s ≡ true → P s)
    → ((F : FundingTicket → ℕ) → sum_by F left + F out ≡ sum_by F all) → Each P all → Each P left
each-left P test all left out into back gone each =
    let none = fails-zero test all (each_map P (λ s. test s ≡ true) into all each) in
    let sum = gone (λ s. cond (test s) 0 1) in
    each_map (λ s. test s ≡ true) P back left (zero-fails test left (omega (arith, none, sum)))

module _ (rs less : List Route) (r : Route) (ss next : List (List FundingTicket)) (s : AreTicketed rs ss)
    (grows : GrowsBy true less rs r)
    (others : (k : ℕ) → nat_eq r.to k ≡ false → funding_tickets_at next k ≡ funding_tickets_at ss k)
    (out : (F : FundingTicket → ℕ) → sum_by F (funding_tickets_at next r.to) + F (funding_ticket_of r)
    ≡ sum_by F (funding_tickets_at ss r.to)) where
  other_to : (a b : ℕ) → nat_eq a b ≡ nat_eq b a
  other_to a b = grind (arith, nat_tests)

  left-at : (P : ℕ → FundingTicket → Type 0) (test : ℕ → FundingTicket → Bool) (p : ℕ)
      → ((s : FundingTicket) → P p s → test p s ≡ true) → ((s : FundingTicket) → test p s ≡ true → P p s)
      → Each (P p) (funding_tickets_at ss p) → Each (P p) (funding_tickets_at next p)
  left-at P test p into back each = by (nat_eq r.to p) refl
    where
      by : (b : Bool) → nat_eq r.to p ≡ b → Each (P p) (funding_tickets_at next p)
      by true e =
          let at = eqb-true r.to p e in
          each-left (P p) (test p) (funding_tickets_at ss p) (funding_tickets_at next p) (funding_ticket_of r) into back
          (subst (λ k. (F : FundingTicket → ℕ) → sum_by F (funding_tickets_at next k) + F (funding_ticket_of r)
          ≡ sum_by F (funding_tickets_at ss k)) at out)
          each
      by false e = subst (Each (P p)) (sym (others p e)) each

  sum-left : (F : FundingTicket → ℕ) (p : ℕ) → p < 65
      → sum_by F (funding_tickets_at next p)
      ≡ sum_by (λ (q : Route). cond (nat_eq p q.to) (F (funding_ticket_of q)) 0) less
  sum-left F p lt = grind (arith, nat_tests, eqb-true, other_to)

  pub ticketed-less : length next ≡ 65 → AreTicketed less next
  ticketed-less long = record {
    ticketed = sum-left;
    within = λ p lt. left-at (λ _ o. IsFundingTicketWithin o)
        (λ _ (o : FundingTicket). nat_lt o.from 65 && nat_le o.amount (2 ^ 20)) p
        (λ o w. into o w) (λ o e. back o e) (s.within p lt);
    places = long;
  }
    where
      into : (o : FundingTicket) → IsFundingTicketWithin o → (nat_lt o.from 65 && nat_le o.amount (2 ^ 20)) ≡ true
      into o w =
          ap (λ b. b && nat_le o.amount (2 ^ 20)) (lt-ltb o.from 65 w.from_place) ∙ le-leb o.amount (2 ^ 20) w.small

      back : (o : FundingTicket) → (nat_lt o.from 65 && nat_le o.amount (2 ^ 20)) ≡ true → IsFundingTicketWithin o
      back o e = grind (arith, nat_tests, and_parts, ltb-true, leb-true)

  pub ranked-less : (rank : ℕ → ℕ) → AreRanks ss rank → AreRanks next rank
  ranked-less rank ranked = record {
    low = ranked.low;
    high = ranked.high;
    above = λ p up lt. left-at (λ q (o : FundingTicket). rank o.from < rank q)
        (λ q (o : FundingTicket). nat_lt (rank o.from) (rank q)) p
        (λ o l. lt-ltb (rank o.from) (rank p) l) (λ o e. ltb-true (rank o.from) (rank p) e) (ranked.above p up lt);
  }

-- A funding ticket that goes and comes back with another amount
module _ (rs left more : List Route) (r : Route) (amount : ℕ) (ss mid next : List (List FundingTicket))
    (s : AreTicketed rs ss) (fewer : GrowsBy true left rs r)
    (others : (k : ℕ) → nat_eq r.to k ≡ false → funding_tickets_at mid k ≡ funding_tickets_at ss k)
    (out : (F : FundingTicket → ℕ) → sum_by F (funding_tickets_at mid r.to) + F (funding_ticket_of r)
    ≡ sum_by F (funding_tickets_at ss r.to))
    (joined : (k : ℕ) → funding_tickets_at next k
    ≡ cond (nat_eq r.to k) (funding_tickets_at mid k ++ funding_ticket_of (amended amount r) ∷ [])
    (funding_tickets_at mid k)) where
  pub ticketed-amended : IsRouteWithin r → amount ≤ 2 ^ 20 → GrowsBy true left more (amended amount r)
      → length mid ≡ 65 → length next ≡ 65 → AreTicketed more next
  ticketed-amended within small grows long after =
      ticketed-more left more (amended amount r) mid next (ticketed-less rs left r ss mid s fewer others out long)
      (record { from_place = within.from_place; to_place = within.to_place; small = small }) grows joined after

  -- it comes from the same place, so the ranks stay
  pub ranked-amended : (rank : ℕ → ℕ) → AreRanks ss rank → AreRanks next rank
  ranked-amended rank ranked = record {
    low = ranked.low;
    high = ranked.high;
    above = λ p up lt. by p (nat_eq r.to p) refl (ranked.above p up lt);
  }
    where
      below : ℕ → FundingTicket → Bool
      below p o = nat_lt (rank o.from) (rank p)

      here : (p : ℕ) → nat_eq r.to p ≡ true
          → Each (λ (o : FundingTicket). rank o.from < rank p) (funding_tickets_at ss p)
          → Each (λ (o : FundingTicket). rank o.from < rank p) (funding_tickets_at next p)
      here p e each =
          let w : FundingTicket → ℕ = λ o. cond (below p o) 0 1 in
          let at = eqb-true r.to p e in
          let none =
          fails-zero (below p) (funding_tickets_at ss p)
          (each_map (λ (o : FundingTicket). rank o.from < rank p) (λ o. below p o ≡ true)
          (λ o l. lt-ltb (rank o.from) (rank p) l) (funding_tickets_at ss p) each) in
          let gone = subst (λ k. sum_by w (funding_tickets_at mid k) + w (funding_ticket_of r)
          ≡ sum_by w (funding_tickets_at ss k)) at (out w) in
          let come = sum-joined mid next (amended amount r) joined w p in
          let one = ap {B = ℕ} (λ b. cond b (w (funding_ticket_of (amended amount r))) 0) (same_to p r.to at) in
          each_map (λ o. below p o ≡ true) (λ (o : FundingTicket). rank o.from < rank p)
          (λ o l. ltb-true (rank o.from) (rank p) l) (funding_tickets_at next p)
          (zero-fails (below p) (funding_tickets_at next p) (omega (arith, none, gone, come, one)))
        where
          same_to : (a b : ℕ) → b ≡ a → nat_eq a b ≡ true
          same_to a b same = grind (arith, nat_tests)

      by : (p : ℕ) (b : Bool) → nat_eq r.to p ≡ b
          → Each (λ (o : FundingTicket). rank o.from < rank p) (funding_tickets_at ss p)
          → Each (λ (o : FundingTicket). rank o.from < rank p) (funding_tickets_at next p)
      by p true e each = here p e each
      by p false e each =
          subst (Each (λ (o : FundingTicket). rank o.from < rank p))
          (sym (joined p
          ∙ ap (λ b. cond b (funding_tickets_at mid p ++ funding_ticket_of (amended amount r) ∷ [])
          (funding_tickets_at mid p)) e
          ∙ others p e)) each

-- the same funding tickets for other routes of the same sums
pub ticketed-same : (rs more : List Route) (r : Route) (ss : List (List FundingTicket)) → AreTicketed rs ss
    → GrowsBy false rs more r
    → AreTicketed more ss
ticketed-same rs more r ss s grows = grind (arith, nat_tests)

pub ticketed-back : (rs less : List Route) (r : Route) (ss : List (List FundingTicket)) → AreTicketed rs ss
    → GrowsBy false less rs r
    → AreTicketed less ss
ticketed-back rs less r ss s grows = grind (arith, nat_tests)

-- the sum over routes that grow
weight_from-by : (b : Bool) (rs more : List Route) (r : Route) (on : ℕ → Bool) (x : ℕ) → GrowsBy b rs more r
    → weight_from more on x ≡ weight_from rs on x + cond b (cond (nat_eq x r.from) (cond (on r.to) r.amount 0) 0) 0
unfolding weight_from
weight_from-by b rs more r on x grows =
    grows (λ (q : Route). cond (nat_eq x q.from && on q.to) q.amount 0)
    ∙ ap (λ n. sum_by (λ (q : Route). cond (nat_eq x q.from && on q.to) q.amount 0) rs + cond b n 0)
    (cond_and (nat_eq x r.from) (on r.to) r.amount)

-- A ticket that comes, or goes: what counts for a place is one more, or one fewer
module _ (backs funds more_backs more_funds : List Route) (r : Route) (a b : Bool) (on active : ℕ → Bool)
    (gb : GrowsBy a backs more_backs r) (gf : GrowsBy b funds more_funds r) where
  abbrev pub gain : ℕ → ℕ
  gain x = cond a (cond (nat_eq x r.from) (cond (on r.to) r.amount 0) 0) 0
      + cond b (cond (nat_eq x r.from) (cond (active r.to) r.amount 0) 0) 0

  all-weight_from : (x : ℕ) → weight_from more_backs on x + weight_from more_funds active x
      ≡ weight_from backs on x + weight_from funds active x + gain x
  all-weight_from x = grind (arith, nat_tests, weight_from-by)

  pub counted-given : (whole next : ℕ → ℕ) → AreCounted backs funds on active whole
      → ((x : ℕ) → x < 65 → next x ≡ whole x + gain x) → AreCounted more_backs more_funds on active next
  counted-given whole next counted grew x lt =
      let was = counted x lt in
      let now = grew x lt in
      let sum = all-weight_from x in
      omega (arith, was, now, sum)

  pub counted-taken : (whole next : ℕ → ℕ) → AreCounted more_backs more_funds on active whole
      → ((x : ℕ) → x < 65 → next x + gain x ≡ whole x) → AreCounted backs funds on active next
  counted-taken whole next counted shrank x lt =
      let was = counted x lt in
      let now = shrank x lt in
      let sum = all-weight_from x in
      omega (arith, was, now, sum)

  pub less-bound : (whole : ℕ → ℕ) → AreCounted backs funds on active whole → (x n : ℕ) → x < 65
      → weight_from more_backs on x + weight_from more_funds active x ≤ n → whole x ≤ n
  less-bound whole counted x n lt bound =
      let was = counted x lt in
      let sum = all-weight_from x in
      omega (arith, was, sum, bound)

  pub gain-held : (whole : ℕ → ℕ) → AreCounted more_backs more_funds on active whole → (x : ℕ) → x < 65
      → gain x ≤ whole x
  gain-held whole counted x lt =
      let was = counted x lt in
      let sum = all-weight_from x in
      omega (arith, was, sum)

-- the sum of all is small
pub sum-bound : (g : Graph) (on active : ℕ → Bool) → IsWellFormed g → (x : ℕ)
    → weight_from (backs_of g) on x + weight_from (funds_of g) active x ≤ 2 ^ 31
sum-bound g on active ok x =
    let one = weight_from-bound (backs_of g) on x (done-within g ok true (backs_of g) refl)
    (done-few g ok true (backs_of g) refl) in
    let two = weight_from-bound (funds_of g) active x (done-within g ok false (funds_of g) refl)
    (done-few g ok false (funds_of g) refl) in
    omega arith
