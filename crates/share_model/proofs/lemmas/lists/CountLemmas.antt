-- Lists in which an item is added, taken out, or changed: what holds of each item, and the number that pass a test.
use Rattle.std.proofs.Common.{◌≡◌, ℕ, ◌+◌, ◌≤◌, Bool, true, false, cond, ◌||◌, ◌&&◌, List, [], ◌∷◌, ◌++◌}
use Rattle.std.proofs.Common.{map, filter, count_by, length, nat_eq, ◌<◌, refl, sym, ap, subst, ◌∙◌, arith}
use Rattle.std.specs.List.{list_any}
use Rattle.std.specs.Set.{remove_key}
use Rattle.std.proofs.lemmas.List.Sums.{sum_by-cons, sum_by-append}
use Rattle.std.proofs.lemmas.Bool.Decides.{nat_tests}
use Rattle.std.proofs.lemmas.Map.Made.{sum_by-remove_key}
use Rattle.std.proofs.Math.Bool.{or-true}
use Rattle.share_model.specs.lists.Each.{Each}
use Rattle.share_model.specs.lists.Rises.{Rises}
use Rattle.share_model.specs.lists.Change.{change_first}
use Rattle.share_model.proofs.lemmas.lists.FirstItemLemmas.{map-change_first}

module _ {X : Type 0} where
  pub Each-remove : (P : X → Type 0) (test : X → Bool) (xs : List X) → Each P xs → Each P (remove_key test xs)
  Each-remove P test [] each = tt
  Each-remove P test (x ∷ xs) each = by (test x) (Each-remove P test xs each.1)
    where
      by : (b : Bool) → Each P (remove_key test xs) → Each P (cond b xs (x ∷ remove_key test xs))
      by true rest = each.1
      by false rest = (each.0, rest)

  pub Each-mapped : (P : X → Type 0) (f : X → X) (xs : List X)
      → Each P xs → ((x : X) → P x → P (f x)) → Each P (map f xs)
  Each-mapped P f [] each kept = tt
  Each-mapped P f (x ∷ xs) each kept = (kept x each.0, Each-mapped P f xs each.1 kept)

  pub length-remove : (test : X → Bool) (xs : List X) → length (remove_key test xs) ≤ length xs
  length-remove test [] = omega arith
  length-remove test (x ∷ xs) = by (test x) (length-remove test xs)
    where
      by : (b : Bool) → length (remove_key test xs) ≤ length xs
          → length (cond b xs (x ∷ remove_key test xs)) ≤ length (x ∷ xs)
      by true rest = omega arith
      by false rest = omega arith

  -- Counts
  pub count-remove : (p test : X → Bool) (xs : List X) → count_by p (remove_key test xs) ≤ count_by p xs
  count-remove p test xs = omega (arith, sum_by-remove_key (λ x. cond (p x) 1 0) test xs)

  -- taking out what the test p does not count changes no count
  pub count-remove_same : (p test : X → Bool) (xs : List X) → ((x : X) → test x ≡ true → p x ≡ false)
      → count_by p (remove_key test xs) ≡ count_by p xs
  count-remove_same p test [] apart = refl
  count-remove_same p test (x ∷ xs) apart = by (test x) refl (count-remove_same p test xs apart)
    where
      by : (b : Bool) → test x ≡ b → count_by p (remove_key test xs) ≡ count_by p xs
          → count_by p (cond b xs (x ∷ remove_key test xs)) ≡ count_by p (x ∷ xs)
      by true e rest =
          let here = ap {B = ℕ} (λ b. cond b 1 0) (apart x e) in
          let more = sum_by-cons (λ x. cond (p x) 1 0) x xs in
          omega arith
      by false e rest =
          let more = sum_by-cons (λ x. cond (p x) 1 0) x xs in
          let less = sum_by-cons (λ x. cond (p x) 1 0) x (remove_key test xs) in
          omega arith

  -- one item more is counted once if it passes the test
  pub count-more : (p : X → Bool) (xs : List X) (x : X) → count_by p (xs ++ x ∷ []) ≡ count_by p xs + cond (p x) 1 0
  count-more p xs x =
      sum_by-append (λ x. cond (p x) 1 0) xs (x ∷ [])
      ∙ ap (λ n. count_by p xs + n) (sum_by-cons (λ x. cond (p x) 1 0) x [] ∙ omega arith)

  -- nothing passes a test that fails for each item
  pub count-none_of : (p : X → Bool) (P : X → Type 0) (xs : List X)
      → Each P xs → ((x : X) → P x → p x ≡ false) → count_by p xs ≡ 0
  count-none_of p P [] each fails = refl
  count-none_of p P (x ∷ xs) each fails =
      let rest = count-none_of p P xs each.1 fails in
      let here = ap {B = ℕ} (λ b. cond b 1 0) (fails x each.0) in
      sum_by-cons (λ x. cond (p x) 1 0) x xs ∙ omega arith

  -- a change that the test does not see leaves the count
  pub count-changed : (p test : X → Bool) (change : X → X) → ((x : X) → p (change x) ≡ p x)
      → (xs : List X) → count_by p (change_first test change xs) ≡ count_by p xs
  unfolding change_first
  count-changed p test change same [] = refl
  count-changed p test change same (x ∷ xs) = by (test x) (count-changed p test change same xs)
    where
      by : (b : Bool) → count_by p (change_first test change xs) ≡ count_by p xs
          → count_by p (cond b (change x ∷ xs) (x ∷ change_first test change xs)) ≡ count_by p (x ∷ xs)
      by true rest =
          let new = sum_by-cons (λ x. cond (p x) 1 0) (change x) xs in
          let old = sum_by-cons (λ x. cond (p x) 1 0) x xs in
          let here = ap {B = ℕ} (λ b. cond b 1 0) (same x) in
          omega arith
      by false rest =
          let new = sum_by-cons (λ x. cond (p x) 1 0) x (change_first test change xs) in
          let old = sum_by-cons (λ x. cond (p x) 1 0) x xs in
          omega arith

  -- one changed item adds at most k to a count, if it adds at most k to its own
  pub count-changed_within : (p test : X → Bool) (change : X → X) (k : ℕ)
      → ((x : X) → cond (p (change x)) 1 0 ≤ cond (p x) 1 0 + k)
      → (xs : List X) → count_by p (change_first test change xs) ≤ count_by p xs + k
  unfolding change_first
  count-changed_within p test change k here [] = omega arith
  count-changed_within p test change k here (x ∷ xs) = by (test x) (count-changed_within p test change k here xs)
    where
      by : (b : Bool) → count_by p (change_first test change xs) ≤ count_by p xs + k
          → count_by p (cond b (change x ∷ xs) (x ∷ change_first test change xs)) ≤ count_by p (x ∷ xs) + k
      by true rest =
          let new = sum_by-cons (λ x. cond (p x) 1 0) (change x) xs in
          let old = sum_by-cons (λ x. cond (p x) 1 0) x xs in
          let more = here x in
          omega arith
      by false rest =
          let new = sum_by-cons (λ x. cond (p x) 1 0) x (change_first test change xs) in
          let old = sum_by-cons (λ x. cond (p x) 1 0) x xs in
          omega arith

  pub count-mapped_less : (p : X → Bool) (f : X → X) → ((x : X) → cond (p (f x)) 1 0 ≤ cond (p x) 1 0)
      → (xs : List X) → count_by p (map f xs) ≤ count_by p xs
  count-mapped_less p f less [] = omega arith
  count-mapped_less p f less (x ∷ xs) =
      let rest = count-mapped_less p f less xs in
      let here = less x in
      let new = sum_by-cons (λ x. cond (p x) 1 0) (f x) (map f xs) in
      let old = sum_by-cons (λ x. cond (p x) 1 0) x xs in
      omega arith

  -- Tests of some item
  pub any-remove : (p test : X → Bool) (xs : List X) → list_any p (remove_key test xs) ≡ true → list_any p xs ≡ true
  any-remove p test [] e = e
  any-remove p test (x ∷ xs) e = by (test x) e (any-remove p test xs)
    where
      by : (b : Bool) → list_any p (cond b xs (x ∷ remove_key test xs)) ≡ true
          → (list_any p (remove_key test xs) ≡ true → list_any p xs ≡ true) → (p x || list_any p xs) ≡ true
      by true e rest = ap (λ b. p x || b) e ∙ or-true (p x)
      by false e rest = step (p x) e rest
        where
          step : (b : Bool) → (b || list_any p (remove_key test xs)) ≡ true
              → (list_any p (remove_key test xs) ≡ true → list_any p xs ≡ true) → (b || list_any p xs) ≡ true
          step true e rest = refl
          step false e rest = rest e

  pub any-filter : (p q : X → Bool) (xs : List X) → list_any q (filter p xs) ≡ list_any (λ x. p x && q x) xs
  any-filter p q [] = refl
  any-filter p q (x ∷ xs) = by (p x) (any-filter p q xs)
    where
      by : (b : Bool) → list_any q (filter p xs) ≡ list_any (λ x. p x && q x) xs
          → list_any q (cond b (x ∷ filter p xs) (filter p xs)) ≡ ((b && q x) || list_any (λ x. p x && q x) xs)
      by true rest = ap (λ b. q x || b) rest
      by false rest = rest

  -- Rising numbers
  Each-remove_number : (P : ℕ → Type 0) (number : X → ℕ) (test : X → Bool) (xs : List X)
      → Each P (map number xs) → Each P (map number (remove_key test xs))
  Each-remove_number P number test [] each = tt
  Each-remove_number P number test (x ∷ xs) each = by (test x) (Each-remove_number P number test xs each.1)
    where
      by : (b : Bool) → Each P (map number (remove_key test xs))
          → Each P (map number (cond b xs (x ∷ remove_key test xs)))
      by true rest = each.1
      by false rest = (each.0, rest)

  -- the numbers still rise if an item is taken out
  rises-less : (number : X → ℕ) (test : X → Bool) (limit : ℕ) (xs : List X)
      → Rises limit (map number xs) → Rises limit (map number (remove_key test xs))
  unfolding Rises
  rises-less number test limit [] rises = tt
  rises-less number test limit (x ∷ xs) rises = by (test x) (rises-less number test limit xs rises.2)
    where
      by : (b : Bool) → Rises limit (map number (remove_key test xs))
          → Rises limit (map number (cond b xs (x ∷ remove_key test xs)))
      by true rest = rises.2
      by false rest = (rises.0, Each-remove_number (λ m. number x < m) number test xs rises.1, rest)

  pub rises-remove : (number : X → ℕ) (test : X → Bool) (from limit : ℕ) (xs : List X)
      → Rises limit (from ∷ map number xs) → Rises limit (from ∷ map number (remove_key test xs))
  unfolding Rises
  rises-remove number test from limit xs rises = (
    rises.0,
    Each-remove_number (λ m. from < m) number test xs rises.1,
    rises-less number test limit xs rises.2,
  )

  pub rises-changed : (number : X → ℕ) (test : X → Bool) (change : X → X) (from limit : ℕ) (xs : List X)
      → ((x : X) → number (change x) ≡ number x)
      → Rises limit (from ∷ map number xs) → Rises limit (from ∷ map number (change_first test change xs))
  rises-changed number test change from limit xs same rises =
      subst (λ ns. Rises limit (from ∷ ns)) (sym (map-change_first number test change same xs)) rises

  -- rising numbers are distinct
  none-above : (number : X → ℕ) (m n : ℕ) → nat_eq m n ≡ true → (xs : List X)
      → Each (λ k. m < k) (map number xs) → count_by (λ x. nat_eq (number x) n) xs ≡ 0
  none-above number m n same [] above = refl
  none-above number m n same (x ∷ xs) above =
      let rest = none-above number m n same xs above.1 in
      let here = ap {B = ℕ} (λ b. cond b 1 0) (apart (number x) above.0) in
      sum_by-cons (λ x. cond (nat_eq (number x) n) 1 0) x xs ∙ omega arith
    where
      apart : (k : ℕ) → m < k → nat_eq k n ≡ false
      apart k more = grind (arith, nat_tests)

  pub rises-once : (number : X → ℕ) (limit : ℕ) (xs : List X)
      → Rises limit (map number xs) → (n : ℕ) → count_by (λ x. nat_eq (number x) n) xs ≤ 1
  unfolding Rises
  rises-once number limit [] rises n = omega arith
  rises-once number limit (x ∷ xs) rises n = by (nat_eq (number x) n) refl (rises-once number limit xs rises.2 n)
    where
      more : count_by (λ x. nat_eq (number x) n) (x ∷ xs)
          ≡ cond (nat_eq (number x) n) 1 0 + count_by (λ x. nat_eq (number x) n) xs
      more = sum_by-cons (λ x. cond (nat_eq (number x) n) 1 0) x xs

      by : (b : Bool) → nat_eq (number x) n ≡ b → count_by (λ x. nat_eq (number x) n) xs ≤ 1
          → count_by (λ x. nat_eq (number x) n) (x ∷ xs) ≤ 1
      by true e rest =
          let here = ap {B = ℕ} (λ b. cond b 1 0) e in
          omega (arith, more, none-above number (number x) n e xs rises.1)
      by false e rest = let here = ap {B = ℕ} (λ b. cond b 1 0) e in omega (arith, more)
