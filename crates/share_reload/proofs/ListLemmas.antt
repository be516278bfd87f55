-- Properties of each item of a list, and the items that it has.
use Rattle.std.specs.Prelude.{◌≡◌, ◌≤◌, ℕ, zero, suc, Bool, true, false, List, [], ◌∷◌, ◌++◌, filter, find}
use Rattle.std.specs.Prelude.{length, position, slice_get, nat_lt, None, Some, Contains}
use Rattle.std.specs.List.{position_or_len}
use Rattle.std.specs.Option.{option_or}
use Rattle.std.proofs.Common.{refl, ap, ◌∙◌, arith, subst}
use Rattle.std.proofs.lemmas.Bool.{cond_both}
use Rattle.std.proofs.lemmas.Bool.Decides.{nat_tests}
use Rattle.std.proofs.lemmas.List.Folds.{find_at, find-append}
use Rattle.std.proofs.lemmas.Option.{slice_get_past}
use Rattle.share_model.specs.lists.Each.{Each}
use Rattle.share_model.proofs.lemmas.lists.FirstItemLemmas.{each_map}

pub none_found : {A : Type 0} (p : A → Bool) (xs : List A) → find p xs ≡ None → Each (λ x. p x ≡ false) xs
none_found p [] none = tt
none_found {A} p (x ∷ xs) none = by_test (p x) refl (none_found p xs)
  where
    by_test : (b : Bool) → p x ≡ b → (find p xs ≡ None → Each (λ x. p x ≡ false) xs)
        → Each (λ x. p x ≡ false) (x ∷ xs)
    by_test true is more = let found : find p (x ∷ xs) ≡ Some x = rw is refl in absurd (cc)
    by_test false is more = let rest : find p xs ≡ None = rw is at none in (is, more rest)

-- an item that is found in front is found, and otherwise one that is found after it
pub found_in_front : {A : Type 0} (p : A → Bool) (xs ys : List A) (x : A) → find p xs ≡ Some x
    → find p (xs ++ ys) ≡ Some x
found_in_front p xs ys x is = find-append p xs ys ∙ ap (λ o. option_or o (find p ys)) is

pub found_behind : {A : Type 0} (p : A → Bool) (xs ys : List A) → find p xs ≡ None → find p (xs ++ ys) ≡ find p ys
found_behind p xs ys is = find-append p xs ys ∙ ap (λ o. option_or o (find p ys)) is

pub each_kept : {A : Type 0} (P : A → Type 0) (q : A → Bool) (xs : List A) → Each P xs → Each P (filter q xs)
each_kept P q [] all = tt
each_kept P q (x ∷ xs) all =
    cond_both (q x) (x ∷ filter q xs) (filter q xs) (Each P) (λ _. (all.0, each_kept P q xs all.1))
    (λ _. each_kept P q xs all.1)

pub each_front : {A : Type 0} (P : A → Type 0) (xs ys : List A) → Each P (xs ++ ys) → Each P xs
each_front P [] ys all = tt
each_front P (x ∷ xs) ys all = (all.0, each_front P xs ys all.1)

pub each_back : {A : Type 0} (P : A → Type 0) (xs ys : List A) → Each P (xs ++ ys) → Each P ys
each_back P [] ys all = all
each_back P (x ∷ xs) ys all = each_back P xs ys all.1

pub each_contained : {A : Type 0} (P : A → Type 0) (xs : List A) (x : A) → Each P xs → Contains xs x → P x
each_contained P [] x all (k, inside, is) = absurd (omega (arith, inside))
each_contained P (y ∷ ys) x all (zero, inside, is) = subst P is all.0
each_contained P (y ∷ ys) x all (suc k, inside, is) =
    each_contained P ys x all.1 (k, omega (arith, inside), is)

pub contained_first : {A : Type 0} (x : A) (xs : List A) → Contains (x ∷ xs) x
contained_first x xs = (0, omega arith, refl)

pub contained_later : {A : Type 0} (x y : A) (xs : List A) → Contains xs x → Contains (y ∷ xs) x
contained_later x y xs (k, inside, is) = (suc k, omega (arith, inside), is)

-- an item that passes is in the filter
pub filtered : {A : Type 0} (q : A → Bool) (xs : List A) → Each (λ x. q x ≡ true → Contains (filter q xs) x) xs
filtered q [] = tt
filtered {A} q (x ∷ xs) =
    cond_both (q x) (x ∷ filter q xs) (filter q xs) (λ ys. Each (λ y. q y ≡ true → Contains ys y) (x ∷ xs))
    (λ _. (
      λ _. contained_first x (filter q xs),
      each_map (λ y. q y ≡ true → Contains (filter q xs) y) (λ y. q y ≡ true → Contains (x ∷ filter q xs) y)
          (λ y in_rest passes. contained_later y x (filter q xs) (in_rest passes)) xs (filtered q xs),
    ))
    (λ fails. (λ passes. absurd (cc), filtered q xs))

-- if no item has a place, none passes
pub none_placed : {A : Type 0} (p : A → Bool) (xs : List A) → position p xs ≡ None → Each (λ x. p x ≡ false) xs
none_placed p xs none = by_test (nat_lt (position_or_len p xs) (length xs)) refl
  where
    by_test : (b : Bool) → nat_lt (position_or_len p xs) (length xs) ≡ b → Each (λ x. p x ≡ false) xs
    by_test true e = let some : position p xs ≡ Some (position_or_len p xs) = rw e refl in absurd (cc)
    by_test false e =
        let past : length xs ≤ position_or_len p xs = grind (arith, nat_tests) in
        none_found p xs (find_at p xs ∙ slice_get_past xs (position_or_len p xs) past)

pub each_at : {A : Type 0} (P : A → Type 0) (xs : List A) (k : ℕ) (x : A) → Each P xs → slice_get xs k ≡ Some x → P x
each_at P [] k x all is = absurd (cc)
each_at P (y ∷ ys) zero x all is = let same : y ≡ x = cc in subst P same all.0
each_at P (y ∷ ys) (suc k) x all is = each_at P ys k x all.1 is
