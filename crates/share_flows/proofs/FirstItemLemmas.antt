-- Laws of the first item that passes a test, by its place.
use Rattle.std.proofs.Common.{◌≡◌, ℕ, ◌<◌, ◌≤◌, zero, suc, Bool, true, false, List, [], ◌∷◌, length, get_or, set}
use Rattle.std.proofs.Common.{remove}
use Rattle.std.proofs.Common.{position, find, Option, None, Some, IsSome, nat_lt, refl, sym, ◌∙◌, ap, subst, arith}
use Rattle.std.specs.List.{position_or_len}
use Rattle.std.specs.Set.{remove_key}
use Rattle.std.proofs.lemmas.Bool.Decides.{nat_tests}
use Rattle.std.proofs.lemmas.List.Folds.{find_at}
use Rattle.std.proofs.lemmas.List.Quantifiers.{position-Some}
use Rattle.std.proofs.lemmas.Option.{slice_get_past}
use Rattle.share_model.specs.lists.Change.{change_first}

-- the item at a place is the first that passes
record IsFirst {A : Type 0} (p : A → Bool) (xs : List A) (i : ℕ) (x : A) : Type 0 where
  inside : i < length xs
  passes : p (get_or xs i x) ≡ true
  before : (k : ℕ) → k < i → p (get_or xs k x) ≡ false

first_of : {A : Type 0} (p : A → Bool) (xs : List A) (i : ℕ) (x : A) → position p xs ≡ Some i → IsFirst p xs i x
first_of p xs i x e = let is = position-Some p xs i x e in record { inside = is.0; passes = is.1; before = is.2 }

first_rest : {A : Type 0} (p : A → Bool) (y : A) (ys : List A) (i : ℕ) (x : A) → IsFirst p (y ∷ ys) (suc i) x
    → IsFirst p ys i x
first_rest p y ys i x is = record {
  inside = omega (arith, is.inside);
  passes = is.passes;
  before = λ k h. is.before (suc k) (omega (arith, h));
}

change_first_at : {A : Type 0} (p : A → Bool) (change : A → A) (xs : List A) (i : ℕ) (x : A) → IsFirst p xs i x
    → set xs i (change (get_or xs i x)) ≡ change_first p change xs
unfolding change_first
change_first_at p change [] i x is = absurd (omega (arith, is.inside))
change_first_at p change (y ∷ ys) zero x is = rw is.passes refl
change_first_at p change (y ∷ ys) (suc i) x is =
    rw (is.before 0 (omega arith)) (ap (λ zs. y ∷ zs) (change_first_at p change ys i x (first_rest p y ys i x is)))

find_at_first : {A : Type 0} (p : A → Bool) (xs : List A) (i : ℕ) (x : A) → IsFirst p xs i x
    → find p xs ≡ Some (get_or xs i x)
find_at_first p [] i x is = absurd (omega (arith, is.inside))
find_at_first p (y ∷ ys) zero x is = rw is.passes refl
find_at_first p (y ∷ ys) (suc i) x is =
    rw (is.before 0 (omega arith)) (find_at_first p ys i x (first_rest p y ys i x is))

-- to change the item at that place is to change the first item that passes
pub changed : {A : Type 0} (p : A → Bool) (change : A → A) (xs : List A) (i : ℕ) (x new : A) → position p xs ≡ Some i
    → x ≡ get_or xs i x → new ≡ change x → set xs i new ≡ change_first p change xs
changed p change xs i x new e item is =
    ap (set xs i) (is ∙ ap change item) ∙ change_first_at p change xs i x (first_of p xs i x e)

-- the item at that place is the one that is found
pub found : {A : Type 0} (p : A → Bool) (xs : List A) (i : ℕ) (x : A) → position p xs ≡ Some i → x ≡ get_or xs i x
    → find p xs ≡ Some x
found p xs i x e item = find_at_first p xs i x (first_of p xs i x e) ∙ ap Some (sym item)

-- and there is one
pub is_found : {A : Type 0} (p : A → Bool) (xs : List A) (i : ℕ) → position p xs ≡ Some i → IsSome (find p xs)
is_found p [] i e = absurd (cc)
is_found p (x ∷ xs) i e = rw (find_at_first p (x ∷ xs) i x (first_of p (x ∷ xs) i x e)) refl

-- an item that is found has a place
pub some_place : {A : Type 0} (p : A → Bool) (xs : List A) → IsSome (find p xs) → IsSome (position p xs)
some_place {A} p xs h = by_test (nat_lt (position_or_len p xs) (length xs)) refl
  where
    nothing : IsSome {T = A} None → ⊥
    nothing h = cc

    by_test : (b : Bool) → nat_lt (position_or_len p xs) (length xs) ≡ b → IsSome (position p xs)
    by_test true e = rw e refl
    by_test false e =
        let past : length xs ≤ position_or_len p xs = grind (arith, nat_tests) in
        let none : find p xs ≡ None = find_at p xs ∙ slice_get_past xs (position_or_len p xs) past in
        absurd (nothing (subst IsSome none h))

take_first : {A : Type 0} (p : A → Bool) (xs : List A) (i : ℕ) (x : A) → IsFirst p xs i x
    → remove xs i ≡ remove_key p xs
take_first p [] i x is = absurd (omega (arith, is.inside))
take_first p (y ∷ ys) zero x is = rw is.passes refl
take_first p (y ∷ ys) (suc i) x is =
    rw (is.before 0 (omega arith)) (ap (λ zs. y ∷ zs) (take_first p ys i x (first_rest p y ys i x is)))

-- taking out the item at that place is to take out the first that passes
pub taken : {A : Type 0} (p : A → Bool) (xs : List A) (i : ℕ) → position p xs ≡ Some i
    → remove xs i ≡ remove_key p xs
taken p [] i e = absurd (cc)
taken p (y ∷ ys) i e = take_first p (y ∷ ys) i y (first_of p (y ∷ ys) i y e)

-- a value is there, or not
no_some : IsSome {T = ℕ} None → ⊥
no_some h = cc

some_none : {A : Type 0} (x : A) → Some x ≡ None → ⊥
some_none x h = cc

lacks : {A : Type 0} (p : A → Bool) (xs : List A) (o : Option A) → position p xs ≡ None → find p xs ≡ o
    → find p xs ≡ None
lacks p xs None none is = is
lacks p xs (Some x) none is = absurd (no_some (subst IsSome none (some_place p xs (rw is refl))))

-- if no item has a place, none is found
pub unfound : {A : Type 0} (p : A → Bool) (xs : List A) → position p xs ≡ None → find p xs ≡ None
unfound p xs none = lacks p xs (find p xs) none refl

unchanged_where : {A : Type 0} (p : A → Bool) (change : A → A) (xs : List A) → find p xs ≡ None
    → change_first p change xs ≡ xs
unfolding change_first
unchanged_where p change [] none = refl
unchanged_where {A} p change (x ∷ xs) none = by_test (p x) refl none (unchanged_where p change xs)
  where
    by_test : (b : Bool) → p x ≡ b → find p (x ∷ xs) ≡ None → (find p xs ≡ None → change_first p change xs ≡ xs)
        → change_first p change (x ∷ xs) ≡ x ∷ xs
    by_test true q is more = absurd (some_none x (rw q at is))
    by_test false q is more = rw q (ap (λ ys. x ∷ ys) (more (rw q at is)))

-- if no item has a place, none is changed
pub unchanged : {A : Type 0} (p : A → Bool) (change : A → A) (xs : List A) → position p xs ≡ None
    → change_first p change xs ≡ xs
unchanged p change xs none = unchanged_where p change xs (unfound p xs none)
