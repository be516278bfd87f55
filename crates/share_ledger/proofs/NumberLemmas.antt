-- Items in the order of their numbers, and where the item of a number stands.
use Rattle.std.proofs.Common.{◌≡◌, ◌∙◌, ℕ, zero, suc, ◌<◌, ◌≤◌, true, false, cond, List, [], ◌∷◌, map, length}
use Rattle.std.proofs.Common.{get_or, slice_get, position, nat_eq, nat_lt, None, Some, refl, sym, ap, subst, arith}
use Rattle.std.proofs.Common.{Result, Ok, Err, IfOk, IfErr, ◌⊎◌, inl, inr}
use Rattle.std.specs.List.{position_or_len}
use Rattle.std.specs.List.Sorted.{IsSearchInRange, IsBinarySearchResult, IsNonDecreasingBy}
use Rattle.std.specs.Ordering.{nat_cmp, ordering_index}
use Rattle.std.proofs.lemmas.Bool.Decides.{nat_tests}
use Rattle.std.proofs.lemmas.Bool.{cases_lt}
use Rattle.std.proofs.lemmas.Cmp.{ranked}
use Rattle.std.proofs.lemmas.List.Sorted.{IsNonDecreasingBy-from_default}
use Rattle.std.proofs.lemmas.List.Sums.{position_or_len_is}
use Rattle.std.proofs.lemmas.List.{get_or-map, length-map}
use Rattle.std.proofs.lemmas.Option.{get_or_from_slice_get, slice_get_within}
use Rattle.share_model.specs.declared.funding.OpenFlow.{OpenFlow}
use Rattle.share_model.specs.funding.Graph.{NameBytes, flow_numbers}
use Rattle.share_model.specs.lists.Each.{Each}
use Rattle.share_model.specs.lists.Rises.{Rises}

module _ {X : Type 0} (number : X → ℕ) where
  each-number : (P : ℕ → Type 0) (xs : List X) (i : ℕ) (d : X) → Each P (map number xs) → i < length xs
      → P (number (get_or xs i d))
  each-number P [] i d each within = absurd (omega arith)
  each-number P (x ∷ xs) zero d each within = each.0
  each-number P (x ∷ xs) (suc i) d each within = each-number P xs i d each.1 (omega arith)

  -- a later item has a greater number
  pub rises-later : (limit : ℕ) (xs : List X) → Rises limit (map number xs) → (i j : ℕ) (d : X) → i < j
      → j < length xs → number (get_or xs i d) < number (get_or xs j d)
  unfolding Rises
  rises-later limit [] rises i j d before within = absurd (omega arith)
  rises-later limit (x ∷ xs) rises i zero d before within = absurd (omega arith)
  rises-later limit (x ∷ xs) rises zero (suc j) d before within =
      each-number (λ m. number x < m) xs j d rises.1 (omega arith)
  rises-later limit (x ∷ xs) rises (suc i) (suc j) d before within =
      rises-later limit xs rises.2 i j d (omega arith) (omega arith)

  module _ (limit : ℕ) (xs : List X) (rises : Rises limit (map number xs)) (n : ℕ) where
    -- an item of this number is the first of it
    pub stands-at : (i : ℕ) (d : X) → i < length xs → number (get_or xs i d) ≡ n
        → position (λ x. nat_eq n (number x)) xs ≡ Some i
    stands-at i d within same =
        let first : position_or_len (λ x. nat_eq n (number x)) xs ≡ i =
        position_or_len_is (λ x. nat_eq n (number x)) xs i d (omega arith)
        (λ k before. apart (number (get_or xs k d)) (rises-later limit xs rises k i d before within))
        (λ _. equal (number (get_or xs i d)) same) in
        let inside : nat_lt i (length xs) ≡ true = grind (arith, nat_tests) in
        ap (λ k. cond (nat_lt k (length xs)) (Some k) None) first
        ∙ ap (λ b. cond b (Some i) None) inside
      where
        apart : (m : ℕ) → m < number (get_or xs i d) → nat_eq n m ≡ false
        apart m less = grind (arith, nat_tests)

        equal : (m : ℕ) → m ≡ n → nat_eq n m ≡ true
        equal m is = grind (arith, nat_tests)

    -- and none stands anywhere if all others are less or greater
    stands-nowhere : (i : ℕ) (d : X) → ((k : ℕ) → k < i → number (get_or xs k d) < n)
        → ((k : ℕ) → i ≤ k → k < length xs → n < number (get_or xs k d))
        → position (λ x. nat_eq n (number x)) xs ≡ None
    stands-nowhere i d less greater =
        let first : position_or_len (λ x. nat_eq n (number x)) xs ≡ length xs =
        position_or_len_is (λ x. nat_eq n (number x)) xs (length xs) d (omega arith)
        (λ k inside. other (number (get_or xs k d))
        (by k inside)) (λ lt. absurd (omega arith)) in
        let outside : nat_lt (length xs) (length xs) ≡ false = grind (arith, nat_tests) in
        ap (λ k. cond (nat_lt k (length xs)) (Some k) None) first
        ∙ ap (λ b. cond b (Some (length xs)) None) outside
      where
        other : (m : ℕ) → (m < n) ⊎ (n < m) → nat_eq n m ≡ false
        other m (inl less) = grind (arith, nat_tests)
        other m (inr more) = grind (arith, nat_tests)

        by : (k : ℕ) → k < length xs → (number (get_or xs k d) < n) ⊎ (n < number (get_or xs k d))
        by k inside = grind (arith, nat_tests, cases_lt)

    -- the finding of a search by halves
    comparisons-rise : (d : X) → IsNonDecreasingBy (λ x. ordering_index (nat_cmp (number x) n)) xs
    comparisons-rise d =
        IsNonDecreasingBy-from_default (λ x. ordering_index (nat_cmp (number x) n)) xs d (λ i j le within.
        let risen : number (get_or xs i d) ≤ number (get_or xs j d) =
        grind (arith, rises-later limit xs rises i j d, λ (same : i ≡ j). ap (λ k. number (get_or xs k d)) same) in
        grind (arith, nat_tests))

    pub searched : (r : Result ℕ ℕ) (d : X) → IsSearchInRange r (length xs)
        → IsBinarySearchResult (λ x. nat_cmp (number x) n) xs r
        → IfOk r (λ i. position (λ x. nat_eq n (number x)) xs ≡ Some i)
        × IfErr r (λ _. position (λ x. nat_eq n (number x)) xs ≡ None)
    searched (Ok at) d in_range equal = (stands-at at d in_range (ranked _ n _ (sym (equal d))), tt)
    searched (Err at) d in_range parted = (
      tt,
      stands-nowhere at d (λ k lt. ranked _ n _ (sym ((parted (comparisons-rise d)).0 k d (omega arith) lt)))
          (λ k le lt. ranked _ n _ (sym ((parted (comparisons-rise d)).1 k d le lt))),
    )

-- the flow of a number, by its place
pub flow-at : (limit f : ℕ) (es : List (NameBytes × OpenFlow)) (i : ℕ) (e : NameBytes × OpenFlow)
    → Rises limit (flow_numbers es) → slice_get es i ≡ Some e → nat_eq f e.1.number ≡ true
    → position (λ (o : OpenFlow). nat_eq f o.number) (map (λ (e : NameBytes × OpenFlow). e.1) es) ≡ Some i
flow-at limit f es i e rises at same =
    stands-at (λ (o : OpenFlow). o.number) limit (map (λ (e : NameBytes × OpenFlow). e.1) es) numbers f i e.1
    (subst (λ n. i < n) (sym (length-map es (λ (e : NameBytes × OpenFlow). e.1))) (slice_get_within es i e at))
    (ap (λ (o : OpenFlow). o.number)
    (get_or-map (λ (e : NameBytes × OpenFlow). e.1) es i e e.1 (slice_get_within es i e at)
    ∙ ap (λ (e : NameBytes × OpenFlow). e.1) (get_or_from_slice_get es i e e at)) ∙ equal e.1.number same)
  where
    equal : (m : ℕ) → nat_eq f m ≡ true → m ≡ f
    equal m same = grind (arith, nat_tests)

    mapped : (es : List (NameBytes × OpenFlow))
        → map (λ (o : OpenFlow). o.number) (map (λ (e : NameBytes × OpenFlow). e.1) es) ≡ flow_numbers es
    mapped [] = refl
    mapped (e ∷ es) = ap (λ ns. e.1.number ∷ ns) (mapped es)

    numbers : Rises limit (map (λ (o : OpenFlow). o.number) (map (λ (e : NameBytes × OpenFlow). e.1) es))
    numbers = subst (Rises limit) (sym (mapped es)) rises
