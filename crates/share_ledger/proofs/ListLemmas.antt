-- Elements of lists, and sums over them.
use Rattle.std.proofs.Common.{◌≡◌, ◌≤◌, ◌<◌, ◌*◌, ℕ, zero, suc, Bool, true, false, List, [], ◌∷◌}
use Rattle.std.proofs.Common.{Some, find, sum_by, length, get_or, sym, true≢false, arith}
use Rattle.std.specs.List.{list_any}
use Rattle.std.proofs.Math.Bool.{or-true}
use Rattle.std.proofs.lemmas.Option.{same_Some}
use Rattle.share_model.specs.lists.Change.{change_first}
use Rattle.std.proofs.lemmas.List.Sums.{sum_by-cons}
use Rattle.share_model.specs.lists.Each.{Each}
use Rattle.std.proofs.lemmas.Bool.Decides.{nat_tests}

pub Each-at : {X : Type 0} (P : X → Type 0) (xs : List X) (i : ℕ) (d : X) → Each P xs → i < length xs
    → P (get_or xs i d)
Each-at P [] i d each h = absurd (omega arith)
Each-at P (x ∷ xs) zero d each h = each.0
Each-at P (x ∷ xs) (suc i) d each h = Each-at P xs i d each.1 (omega arith)

-- if a sum is nothing, each of its terms is
pub no-term : {X : Type 0} (f : X → ℕ) (xs : List X) → sum_by f xs ≡ 0 → Each (λ x. f x ≡ 0) xs
no-term f [] none = tt
no-term f (x ∷ xs) none = let sum = sum_by-cons f x xs in (omega arith, no-term f xs (omega arith))

-- a sum of terms of at most m each is at most their number times m
pub sum_by-bound : {X : Type 0} (P : X → Type 0) (f : X → ℕ) (m : ℕ) (xs : List X) → Each P xs
    → ((x : X) → P x → f x ≤ m) → sum_by f xs ≤ length xs * m
sum_by-bound P f m [] each small = omega arith
sum_by-bound P f m (x ∷ xs) each small =
    let rest = sum_by-bound P f m xs each.1 small in
    let here = small x each.0 in
    omega (arith, sum_by-cons f x xs)

-- if the first element that passes a test is changed, and what some element passes
module _ {X : Type 0} (first : X → Bool) (change : X → X) (test : X → Bool) (t : X) where
  pub any-changed : (xs : List X) → find first xs ≡ Some t → test (change t) ≡ true
      → list_any test (change_first first change xs) ≡ true
  unfolding change_first
  any-changed [] found e = absurd cc
  any-changed (x ∷ xs) found e = grind (arith, nat_tests, same_Some, or-true, any-changed xs)

  pub any-left : (xs : List X) → find first xs ≡ Some t → test t ≡ false → list_any test xs ≡ true
      → list_any test (change_first first change xs) ≡ true
  unfolding change_first
  any-left [] found fails e = absurd (true≢false (sym e))
  any-left (x ∷ xs) found fails e = grind (arith, nat_tests, same_Some, or-true, any-left xs)
