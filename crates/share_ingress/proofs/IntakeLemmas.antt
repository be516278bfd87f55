-- The offers of each worker are counted, and the ends are joined to the intake.
use Rattle.std.proofs.Common.{◌≡◌, ◌≢◌, ◌≤◌, ◌<◌, ℕ, zero, suc, ◌+◌, ◌-◌, true}
use Rattle.std.proofs.Common.{List, [], ◌∷◌, ◌++◌, length, take, sum, slice_index, slice_set, arith, refl, sym, ap, ◌∙◌}
use Rattle.std.proofs.Common.{subst, ⊎_elim}
use Rattle.std.proofs.Math.Seq.{take-suc}
use Rattle.std.proofs.lemmas.List.{append-nil, length-append, nil_from_length, get_or-set_same}
use Rattle.std.proofs.Math.ListN.{length-set}
use Rattle.std.proofs.lemmas.List.{get_or-set_other}
use Rattle.std.proofs.lemmas.List.Sums.{sum_by-append}
use Rattle.share_model.specs.declared.ingress.Offer.{Offer}
use Rattle.share_model.specs.declared.ingress.QueueView.{QueueView}
use Rattle.share_model.specs.ingress.Queue.{an_intake, of_worker, has, Begins, IsWorker, Taken}
use Rattle.share_model.specs.lists.Each.{Each}
use Rattle.share_ingress.specs.Ends.{EndView, IntakeView, CountsByWorker}
use Rattle.share_ingress.specs.Gathers.{has_end, IsWhole, tallies_of}
use Rattle.share_ingress.proofs.OfferLemmas.{same_or_not, of_same, of_other, of_snoc_same, of_snoc_other}
use Rattle.share_ingress.proofs.OfferLemmas.{each_snoc}

-- Counts

-- an offer of this worker is popped, whose number is the next
counts_more : (counts : List ℕ) (os : List Offer) (o : Offer) → CountsByWorker counts os → (1 ≤ o.worker)
    → (o.worker ≤ 8)
    → o.n ≡ suc (length (of_worker o.worker os))
    → CountsByWorker (slice_set counts (o.worker - 1) o.n) (os ++ o ∷ [])
counts_more counts os o h low high next = (
  length-set counts (o.worker - 1) o.n ∙ h.0,
  λ w below. ⊎_elim
      (λ (e : w ≡ o.worker - 1). let mine : o.worker ≡ suc w = omega (arith, e, low) in
      let here : slice_index (slice_set counts (o.worker - 1) o.n) w ≡ o.n =
      rw e (get_or-set_same counts (o.worker - 1) o.n 0 (omega (arith, h.0, low, high))) in
      here ∙ next ∙ ap (λ u. suc (length (of_worker u os))) mine
      ∙ (let more : length (of_worker (suc w) os ++ o ∷ []) ≡ length (of_worker (suc w) os) + 1 =
      length-append (of_worker (suc w) os) (o ∷ []) in
      let more_is : suc (length (of_worker (suc w) os)) ≡ length (of_worker (suc w) os ++ o ∷ []) =
      omega (arith, more) in
      more_is)
      ∙ ap (λ (t : List Offer). length t) (sym (of_snoc_same (suc w) os o mine)))
      (λ (e : w ≢ o.worker - 1). get_or-set_other counts (o.worker - 1) w o.n 0 e ∙ h.1 w below
      ∙ ap (λ (t : List Offer). length t) (sym (of_snoc_other (suc w) os o (λ f. e (omega (arith, f))))))
      (same_or_not w (o.worker - 1)),
)

-- the counts of the intake, when it has popped one more
module _ (v w : QueueView) (o : Offer) (workers : ℕ) (is : v ≡ an_intake workers v.popped v.ahead v.closed)
    (taken : Taken v o w) where
  pub view_after : w ≡ an_intake workers w.popped w.ahead w.closed
  view_after = taken.view_is
      ∙ λ k. an_intake (is k).made ((sym taken.view_is) k).popped w.ahead ((sym taken.view_is) k).closed

  worker_is : IsWorker workers o.worker
  worker_is = subst (λ (u : QueueView). IsWorker u.made o.worker) is taken.known

  popped_is : v.popped ++ o ∷ [] ≡ w.popped
  popped_is = ap (λ (u : QueueView). u.popped) (sym taken.view_is)

  pub known_after : Each (λ x. IsWorker workers x.worker) v.popped → Each (λ x. IsWorker workers x.worker) w.popped
  known_after h = subst (λ t. Each (λ (x : Offer). IsWorker workers x.worker) t) popped_is
      (each_snoc (λ (x : Offer). IsWorker workers x.worker) v.popped o h worker_is)

  pub counts_after : (counts : List ℕ) → CountsByWorker counts v.popped → workers ≤ 8
      → CountsByWorker (slice_set counts (o.worker - 1) o.n) w.popped
  counts_after counts h most = subst (λ t. CountsByWorker (slice_set counts (o.worker - 1) o.n) t) popped_is
      (counts_more counts v.popped o h worker_is.0 (omega (arith, worker_is.1, most)) taken.number)

pub tallies_are : (n : ℕ) (counts : List ℕ) (os : List Offer) → n ≤ 8 → CountsByWorker counts os
    → take n counts ≡ tallies_of n os
tallies_are zero counts os most h = refl
tallies_are (suc n) counts os most h =
    take-suc counts n 0 (omega (arith, most, h.0))
    ∙ ap (λ t. t ++ slice_index counts n ∷ []) (tallies_are n counts os (omega (arith, most)) h)
    ∙ ap (λ c. tallies_of n os ++ c ∷ []) (h.1 n (omega (arith, most)))

-- The tallies of all workers are the length

sum_snoc : (xs : List ℕ) (x : ℕ) → sum (xs ++ x ∷ []) ≡ sum xs + x
sum_snoc xs x = let last : 0 + x ≡ x = omega arith in
    sum_by-append (λ y. y) xs (x ∷ []) ∙ ap (λ n. sum xs + n) last

tallies_none : (n : ℕ) → sum (tallies_of n []) ≡ 0
tallies_none zero = refl
tallies_none (suc n) = sum_snoc (tallies_of n []) 0 ∙ omega (arith, tallies_none n)

-- an offer of a later worker is in none of these
tallies_later : (n : ℕ) (o : Offer) (os : List Offer) → n < o.worker → tallies_of n (o ∷ os) ≡ tallies_of n os
tallies_later zero o os h = refl
tallies_later (suc n) o os h =
    ap (λ t. t ++ length (of_worker (suc n) (o ∷ os)) ∷ []) (tallies_later n o os (omega (arith, h)))
    ∙ ap (λ (t : List Offer). tallies_of n os ++ length t ∷ []) (of_other (suc n) o os (λ e. omega (arith, e, h)))

tallies_first : (n : ℕ) (o : Offer) (os : List Offer) → IsWorker n o.worker
    → sum (tallies_of n (o ∷ os)) ≡ suc (sum (tallies_of n os))
tallies_first zero o os h = absurd (omega (arith, h.0, h.1))
tallies_first (suc n) o os h =
    let all : sum (tallies_of (suc n) (o ∷ os)) ≡ sum (tallies_of n (o ∷ os)) + length (of_worker (suc n) (o ∷ os)) =
    sum_snoc (tallies_of n (o ∷ os)) (length (of_worker (suc n) (o ∷ os))) in
    let before : sum (tallies_of (suc n) os) ≡ sum (tallies_of n os) + length (of_worker (suc n) os) =
    sum_snoc (tallies_of n os) (length (of_worker (suc n) os)) in
    ⊎_elim
    (λ (e : o.worker ≡ suc n). let mine : length (of_worker (suc n) (o ∷ os)) ≡ suc (length (of_worker (suc n) os)) =
    ap (λ (t : List Offer). length t) (of_same (suc n) o os e) in
    let others : sum (tallies_of n (o ∷ os)) ≡ sum (tallies_of n os) =
    ap (λ t. sum t) (tallies_later n o os (omega (arith, e))) in
    omega (arith, all, before, mine, others))
    (λ (e : o.worker ≢ suc n). let other : length (of_worker (suc n) (o ∷ os)) ≡ length (of_worker (suc n) os) =
    ap (λ (t : List Offer). length t) (of_other (suc n) o os e) in
    let earlier : sum (tallies_of n (o ∷ os)) ≡ suc (sum (tallies_of n os)) =
    tallies_first n o os (h.0, omega (arith, e, h.1)) in
    omega (arith, all, before, other, earlier))
    (same_or_not o.worker (suc n))

pub tallies_sum : (n : ℕ) (os : List Offer) → Each (λ o. IsWorker n o.worker) os → sum (tallies_of n os) ≡ length os
tallies_sum n [] h = tallies_none n
tallies_sum n (o ∷ os) h = tallies_first n o os h.0 ∙ ap suc (tallies_sum n os h.1)

-- An end of which all was popped

pub whole_of : (os front : List Offer) → Begins os front → length os ≤ length front → os ≡ front
whole_of os front h most =
    let long : length os ≡ length front + length h.0 = ap (λ (t : List Offer). length t) h.1
    ∙ length-append front h.0 in
    let none : h.0 ≡ [] = nil_from_length h.0 (omega (arith, long, most)) in
    h.1 ∙ ap (λ t. front ++ t) none ∙ append-nil front

pub whole_by : (e d : EndView) (i j : IntakeView) → e ≡ d → i ≡ j → IsWhole j.popped d → IsWhole i.popped e
whole_by e d i j p q h = subst (λ (y : EndView × IntakeView). IsWhole y.1.popped y.0) (λ k. (sym p k, sym q k)) h

-- Ends that were joined, the last one first

pub record ClosedEnds (first : IntakeView) (all : List EndView) (now : IntakeView) (left : List EndView) : Type 0 where
  pub joined : List EndView
  pub split : all ≡ left ++ joined
  pub same : now ≡ record first { closed = now.closed }
  pub marked : (w : ℕ) → has_end w joined ≡ true → has w now.closed ≡ true
  pub whole : Each (IsWhole first.popped) joined
