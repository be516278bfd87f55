-- Sums over lists of which one item is found, or is changed.
use Rattle.std.specs.Prelude.{◌≡◌, ◌≤◌, ◌+◌, ℕ, Bool, true, false, List, [], ◌∷◌, find, sum_by, Some}
use Rattle.std.specs.Prelude.{if◌then◌else◌}
use Rattle.std.proofs.Common.{refl, ap, sym, ◌∙◌, arith}
use Rattle.std.proofs.lemmas.List.Sums.{sum_by-cons}
use Rattle.std.proofs.lemmas.Option.{same_Some}
use Rattle.share_model.specs.lists.Change.{change_first}

sum_changed_by : {A : Type 0} (f : A → ℕ) (p : A → Bool) (change : A → A) (x y : A) (xs ys : List A) (k : Bool)
    → p x ≡ k → (if k then Some x else find p xs) ≡ Some y
    → (find p xs ≡ Some y → sum_by f ys + f y ≡ sum_by f xs + f (change y))
    → sum_by f (if k then change x ∷ xs else x ∷ ys) + f y ≡ (f x + sum_by f xs) + f (change y)
sum_changed_by f p change x y xs ys true test found rest =
    let same : x ≡ y = same_Some x y found in
    let a : f x ≡ f y = ap f same in
    let b : f (change x) ≡ f (change y) = ap (λ x. f (change x)) same in
    let c : sum_by f (change x ∷ xs) ≡ f (change x) + sum_by f xs = sum_by-cons f (change x) xs in
    omega arith
sum_changed_by f p change x y xs ys false test found rest =
    let a : sum_by f ys + f y ≡ sum_by f xs + f (change y) = rest found in
    let c : sum_by f (x ∷ ys) ≡ f x + sum_by f ys = sum_by-cons f x ys in
    omega arith

-- a sum after the first item that passes was changed
pub sum_by-change_first : {A : Type 0} (f : A → ℕ) (p : A → Bool) (change : A → A) (y : A) (xs : List A)
    → find p xs ≡ Some y → sum_by f (change_first p change xs) + f y ≡ sum_by f xs + f (change y)
unfolding change_first
sum_by-change_first f p change y [] found = cc
sum_by-change_first f p change y (x ∷ xs) found =
    sum_changed_by f p change x y xs (change_first p change xs) (p x) refl found (sum_by-change_first f p change y xs)
    ∙ ap (λ n. n + f (change y)) (sym (sum_by-cons f x xs))

found_by : {A : Type 0} (f : A → ℕ) (p : A → Bool) (x y : A) (xs : List A) (k : Bool)
    → (if k then Some x else find p xs) ≡ Some y → (find p xs ≡ Some y → f y ≤ sum_by f xs) → f y ≤ sum_by f (x ∷ xs)
found_by f p x y xs true found rest =
    let a : f x ≡ f y = ap f (same_Some x y found) in
    let c : sum_by f (x ∷ xs) ≡ f x + sum_by f xs = sum_by-cons f x xs in
    omega arith
found_by f p x y xs false found rest =
    let a : f y ≤ sum_by f xs = rest found in
    let c : sum_by f (x ∷ xs) ≡ f x + sum_by f xs = sum_by-cons f x xs in
    omega arith

-- a sum is not below that of an item that was found
pub sum_by-found : {A : Type 0} (f : A → ℕ) (p : A → Bool) (y : A) (xs : List A) → find p xs ≡ Some y
    → f y ≤ sum_by f xs
sum_by-found f p y [] found = cc
sum_by-found f p y (x ∷ xs) found = found_by f p x y xs (p x) found (sum_by-found f p y xs)
