-- Laws of lists from which the first item that passes a test was taken out.
use Rattle.std.specs.Prelude.{◌≡◌, ◌<◌, ◌+◌, ℕ, suc, Bool, true, false, ◌||◌, List, [], ◌∷◌, length, map, find, sum_by}
use Rattle.std.specs.Prelude.{nat_eq, Option, None, Some, is_some, if◌then◌else◌}
use Rattle.std.specs.Set.{remove_key}
use Rattle.std.proofs.Common.{refl, ap, sym, ◌∙◌, arith}
use Rattle.std.proofs.lemmas.Bool.{cond-false, ne_eqb, eqb-true, eqb-false, or_from}
use Rattle.std.proofs.lemmas.List.Sums.{sum_by-cons}
use Rattle.std.proofs.lemmas.Option.{same_Some}
use Rattle.share_model.specs.lists.Each.{Each}
use Rattle.share_model.specs.lists.Rises.{Rises}
use Rattle.share_model.specs.lists.Rises.{has_number}
use Rattle.share_model.proofs.lemmas.lists.FirstItemLemmas.{is_some-find_number}

pub map-remove_key : {A K : Type 0} (key : A → K) (p : K → Bool) (xs : List A)
    → map key (remove_key (λ x. p (key x)) xs) ≡ remove_key p (map key xs)
map-remove_key key p [] = refl
map-remove_key key p (x ∷ xs) = by_head (p (key x)) (map-remove_key key p xs)
  where
    by_head : (b : Bool) → map key (remove_key (λ x. p (key x)) xs) ≡ remove_key p (map key xs)
        → map key (if b then xs else x ∷ remove_key (λ x. p (key x)) xs)
        ≡ (if b then map key xs else key x ∷ remove_key p (map key xs))
    by_head true rest = refl
    by_head false rest = ap (λ ks. key x ∷ ks) rest

-- lists of the same numbers and the same values keep the same values if a number is taken out of both
pub values-remove_key : {A B V : Type 0} (key : A → ℕ) (other : B → ℕ) (value : A → V) (mate : B → V) (f : ℕ)
    (xs : List A) (ys : List B) → map key xs ≡ map other ys → map value xs ≡ map mate ys
    → map value (remove_key (λ x. nat_eq f (key x)) xs) ≡ map mate (remove_key (λ y. nat_eq f (other y)) ys)
values-remove_key key other value mate f [] [] keys values = refl
values-remove_key key other value mate f [] (y ∷ ys) keys values = cc
values-remove_key key other value mate f (x ∷ xs) [] keys values = cc
values-remove_key key other value mate f (x ∷ xs) (y ∷ ys) keys values =
    let ks : key x ∷ map key xs ≡ other y ∷ map other ys = keys in
    let vs : value x ∷ map value xs ≡ mate y ∷ map mate ys = values in
    let k : key x ≡ other y = cc in
    let v : value x ≡ mate y = cc in
    let kr : map key xs ≡ map other ys = cc in
    let vr : map value xs ≡ map mate ys = cc in
    by_head (nat_eq f (key x)) (nat_eq f (other y)) (ap (nat_eq f) k) v vr
    (values-remove_key key other value mate f xs ys kr vr)
  where
    by_head : (a b : Bool) → a ≡ b → value x ≡ mate y → map value xs ≡ map mate ys
        → map value (remove_key (λ x. nat_eq f (key x)) xs) ≡ map mate (remove_key (λ y. nat_eq f (other y)) ys)
        → map value (if a then xs else x ∷ remove_key (λ x. nat_eq f (key x)) xs)
        ≡ map mate (if b then ys else y ∷ remove_key (λ y. nat_eq f (other y)) ys)
    by_head true true same v vr rest = vr
    by_head true false same v vr rest = cc
    by_head false true same v vr rest = cc
    by_head false false same v vr rest = cc

-- the item that is found under another number
pub find-remove_other : {A : Type 0} (key : A → ℕ) (f g : ℕ) → nat_eq g f ≡ false → (xs : List A)
    → find (λ x. nat_eq g (key x)) (remove_key (λ x. nat_eq f (key x)) xs) ≡ find (λ x. nat_eq g (key x)) xs
find-remove_other key f g apart [] = refl
find-remove_other key f g apart (x ∷ xs) =
    by_head (nat_eq f (key x)) refl (find-remove_other key f g apart xs)
  where
    differs : nat_eq f (key x) ≡ true → nat_eq g (key x) ≡ false
    differs same = ap (nat_eq g) (sym (eqb-true f (key x) same)) ∙ apart

    by_head : (b : Bool) → nat_eq f (key x) ≡ b
        → find (λ x. nat_eq g (key x)) (remove_key (λ x. nat_eq f (key x)) xs) ≡ find (λ x. nat_eq g (key x)) xs
        → find (λ x. nat_eq g (key x)) (if b then xs else x ∷ remove_key (λ x. nat_eq f (key x)) xs)
        ≡ find (λ x. nat_eq g (key x)) (x ∷ xs)
    by_head true test rest =
        sym (cond-false (nat_eq g (key x)) (Some x) (find (λ x. nat_eq g (key x)) xs) (differs test))
    by_head false test rest = ap (λ o. if nat_eq g (key x) then Some x else o) rest

pub has_number-remove_other : (f g : ℕ) → nat_eq g f ≡ false → (ns : List ℕ)
    → has_number g (remove_key (nat_eq f) ns) ≡ has_number g ns
has_number-remove_other f g apart ns =
    sym (is_some-find_number (λ (n : ℕ). n) g (remove_key (nat_eq f) ns)
    ∙ ap (has_number g) (same (remove_key (nat_eq f) ns)))
    ∙ (ap is_some (find-remove_other (λ (n : ℕ). n) f g apart ns)
    ∙ (is_some-find_number (λ (n : ℕ). n) g ns ∙ ap (has_number g) (same ns)))
  where
    same : (ms : List ℕ) → map (λ (n : ℕ). n) ms ≡ ms
    same [] = refl
    same (m ∷ ms) = ap (λ ns. m ∷ ns) (same ms)

-- a number below another is not that one
pub not_above : (n m k : ℕ) → n ≡ m → m < k → n ≡ k → ⊥
not_above n m k a b c = omega arith

above_none : (f n : ℕ) (ns : List ℕ) → f ≡ n → Each (λ m. n < m) ns → has_number f ns ≡ false
above_none f n [] same above = refl
above_none f n (m ∷ ns) same above =
    or_from (nat_eq f m) (has_number f ns) (ne_eqb f m (λ is. not_above f n m same above.0 is))
    (above_none f n ns same above.1)

-- a number that was taken out of rising numbers is not among the others
pub has_number-remove_same : (limit f : ℕ) (ns : List ℕ) → Rises limit ns
    → has_number f (remove_key (nat_eq f) ns) ≡ false
unfolding Rises
has_number-remove_same limit f [] rises = refl
has_number-remove_same limit f (n ∷ ns) rises = by_head (nat_eq f n) refl (has_number-remove_same limit f ns rises.2)
  where
    by_head : (b : Bool) → nat_eq f n ≡ b → has_number f (remove_key (nat_eq f) ns) ≡ false
        → has_number f (if b then ns else n ∷ remove_key (nat_eq f) ns) ≡ false
    by_head true test rest = above_none f n ns (eqb-true f n test) rises.1
    by_head false test rest = or_from (nat_eq f n) (has_number f (remove_key (nat_eq f) ns)) test rest

-- a list from which a number was taken out has one less
pub length-remove_number : (f : ℕ) (ns : List ℕ) → has_number f ns ≡ true
    → length (remove_key (nat_eq f) ns) + 1 ≡ length ns
length-remove_number f [] has = cc
length-remove_number f (n ∷ ns) has = by_head (nat_eq f n) has (length-remove_number f ns)
  where
    by_head : (b : Bool) → (b || has_number f ns) ≡ true
        → (has_number f ns ≡ true → length (remove_key (nat_eq f) ns) + 1 ≡ length ns)
        → length (if b then ns else n ∷ remove_key (nat_eq f) ns) + 1 ≡ suc (length ns)
    by_head true has rest = omega arith
    by_head false has rest = let r = rest has in omega arith

pub sum_by-remove_found : {A : Type 0} (f : A → ℕ) (p : A → Bool) (y : A) (xs : List A) → find p xs ≡ Some y
    → sum_by f (remove_key p xs) + f y ≡ sum_by f xs
sum_by-remove_found f p y [] found = cc
sum_by-remove_found f p y (x ∷ xs) found = by_head (p x) found (sum_by-remove_found f p y xs)
  where
    by_head : (b : Bool) → (if b then Some x else find p xs) ≡ Some y
        → (find p xs ≡ Some y → sum_by f (remove_key p xs) + f y ≡ sum_by f xs)
        → sum_by f (if b then xs else x ∷ remove_key p xs) + f y ≡ sum_by f (x ∷ xs)
    by_head true found rest =
        let same : f x ≡ f y = ap f (same_Some x y found) in
        let more : sum_by f (x ∷ xs) ≡ f x + sum_by f xs = sum_by-cons f x xs in
        omega arith
    by_head false found rest =
        let r = rest found in
        let more : sum_by f (x ∷ xs) ≡ f x + sum_by f xs = sum_by-cons f x xs in
        let less : sum_by f (x ∷ remove_key p xs) ≡ f x + sum_by f (remove_key p xs) =
        sum_by-cons f x (remove_key p xs) in
        omega arith

-- if none is found, the list stays
pub remove_key-none : {A : Type 0} (p : A → Bool) (xs : List A) → find p xs ≡ None → remove_key p xs ≡ xs
remove_key-none p [] none = refl
remove_key-none p (x ∷ xs) none = by_head (p x) none (remove_key-none p xs)
  where
    by_head : (b : Bool) → (if b then Some x else find p xs) ≡ None
        → (find p xs ≡ None → remove_key p xs ≡ xs) → (if b then xs else x ∷ remove_key p xs) ≡ x ∷ xs
    by_head true none rest = cc
    by_head false none rest = ap (λ ys. x ∷ ys) (rest none)

-- numbers that differ, the other way round
pub other_way : (f g : ℕ) → nat_eq f g ≡ false → nat_eq g f ≡ false
other_way f g apart = ne_eqb g f (λ same. eqb-false f g apart (sym same))

pub none_from : {A : Type 0} (o : Option A) → is_some o ≡ false → o ≡ None
none_from None is = refl
none_from (Some x) is = cc

-- nothing is found under a number that is not there
pub find-absent : {A : Type 0} (key : A → ℕ) (f : ℕ) (xs : List A) → has_number f (map key xs) ≡ false
    → find (λ x. nat_eq f (key x)) xs ≡ None
find-absent key f xs absent =
    none_from (find (λ x. nat_eq f (key x)) xs) (is_some-find_number key f xs ∙ absent)
