-- Laws of lists: a change of the first item that passes a test, and what holds of each item.
use Rattle.std.specs.Prelude.{◌≡◌, ◌<◌, ◌+◌, ℕ, suc, Bool, true, false, ◌||◌, List, [], ◌∷◌, ◌++◌, drop, length, map}
use Rattle.std.specs.Prelude.{find, nat_eq, Option, Some, option_map, is_some, if◌then◌else◌}
use Rattle.std.specs.Option.{option_or}
use Rattle.std.specs.List.{position_or_len}
use Rattle.std.proofs.Common.{position, cond, not, None, nat_lt, refl, ap, sym, ◌∙◌, arith, inl, inr}
use Rattle.std.proofs.lemmas.List.{length-map}
use Rattle.std.proofs.lemmas.Bool.{cond_both, cond-true, cond-false, eqb-true, ne_eqb, eq-eqb, or_cases, or_from}
use Rattle.std.proofs.lemmas.Bool.{or_right}
use Rattle.std.proofs.lemmas.Option.{same_Some}
use Rattle.std.proofs.lemmas.List.Folds.{find-append}
use Rattle.share_model.specs.lists.Change.{change_first}
use Rattle.share_model.specs.lists.Each.{Each}
use Rattle.share_model.specs.lists.Rises.{Rises, has_number}

-- Each

pub each_map : {A : Type 0} (P Q : A → Type 0) → ((x : A) → P x → Q x) → (xs : List A) → Each P xs → Each Q xs
each_map P Q weaken [] all = tt
each_map P Q weaken (x ∷ xs) all = (weaken x all.0, each_map P Q weaken xs all.1)

pub each-append : {A : Type 0} (P : A → Type 0) (xs ys : List A) → Each P xs → Each P ys → Each P (xs ++ ys)
each-append P [] ys front back = back
each-append P (x ∷ xs) ys front back = (front.0, each-append P xs ys front.1 back)

pub each-one : {A : Type 0} (P : A → Type 0) (x : A) → P x → Each P (x ∷ [])
each-one P x here = (here, tt)

pub each-all : {A : Type 0} (P : A → Type 0) → ((x : A) → P x) → (xs : List A) → Each P xs
each-all P all [] = tt
each-all P all (x ∷ xs) = (all x, each-all P all xs)

neither : (a b : Bool) → (a || b) ≡ false → (a ≡ false) × (b ≡ false)
neither true b none = cc
neither false b none = (refl, none)

-- a number that is not in a list is not one of its numbers
pub each-other : (f : ℕ) (ns : List ℕ) → has_number f ns ≡ false → Each (λ n. nat_eq f n ≡ false) ns
each-other f [] none = tt
each-other f (n ∷ ns) none =
    let both = neither (nat_eq f n) (has_number f ns) none in (both.0, each-other f ns both.1)

pub each-drop_one : {A : Type 0} (P : A → Type 0) (xs : List A) → Each P xs → Each P (drop 1 xs)
each-drop_one P [] all = tt
each-drop_one P (x ∷ xs) all = all.1

pub each-change_first : {A : Type 0} (P Q : A → Type 0) (p : A → Bool) (change : A → A) → ((x : A) → P x → Q x)
    → ((x : A) → P x → Q (change x)) → (xs : List A) → Each P xs → Each Q (change_first p change xs)
unfolding change_first
each-change_first P Q p change stays changes [] all = tt
each-change_first P Q p change stays changes (x ∷ xs) all =
    cond_both (p x) (change x ∷ xs) (x ∷ change_first p change xs) (λ ys. Each Q ys)
    (λ _. (changes x all.0, each_map P Q stays xs all.1))
    (λ _. (stays x all.0, each-change_first P Q p change stays changes xs all.1))

each_find_by : {A : Type 0} (P : A → Type 0) (p : A → Bool) (x : A) (xs : List A) (y : A) (b : Bool) → P x
    → (find p xs ≡ Some y → P y) → (if b then Some x else find p xs) ≡ Some y → P y
each_find_by P p x xs y true here rest found = rw (same_Some x y found) at here
each_find_by P p x xs y false here rest found = rest found

pub each-find : {A : Type 0} (P : A → Type 0) (p : A → Bool) (xs : List A) (y : A) → Each P xs → find p xs ≡ Some y
    → P y
each-find P p [] y all found = cc
each-find P p (x ∷ xs) y all found = each_find_by P p x xs y (p x) all.0 (each-find P p xs y all.1) found

-- find

find_holds_by : {A : Type 0} (p : A → Bool) (x : A) (xs : List A) (y : A) (b : Bool) → p x ≡ b
    → (find p xs ≡ Some y → p y ≡ true) → (if b then Some x else find p xs) ≡ Some y → p y ≡ true
find_holds_by p x xs y true test rest found = cc
find_holds_by p x xs y false test rest found = rest found

pub find-holds : {A : Type 0} (p : A → Bool) (xs : List A) (y : A) → find p xs ≡ Some y → p y ≡ true
find-holds p [] y found = cc
find-holds p (x ∷ xs) y found = find_holds_by p x xs y (p x) refl (find-holds p xs y) found

-- The first item of a number

abbrev place_within : ℕ → ℕ → Option ℕ
place_within n len = cond (nat_lt n len) (Some n) None

position_or_len-map : {A : Type 0} (key : A → ℕ) (f : ℕ) (xs : List A)
    → position_or_len (λ x. nat_eq f (key x)) xs ≡ position_or_len (nat_eq f) (map key xs)
position_or_len-map key f [] = refl
position_or_len-map key f (x ∷ xs) =
    ap (λ n. cond (not (nat_eq f (key x))) (1 + n) 0) (position_or_len-map key f xs)

-- it stands where the number stands first
pub position-map : {A : Type 0} (key : A → ℕ) (f : ℕ) (xs : List A)
    → position (λ x. nat_eq f (key x)) xs ≡ position (nat_eq f) (map key xs)
position-map key f xs =
    ap (λ n. place_within n (length xs)) (position_or_len-map key f xs)
    ∙ ap (place_within (position_or_len (nat_eq f) (map key xs))) (sym (length-map xs key))

-- A change of the first item that passes a test

pub length-change_first : {A : Type 0} (p : A → Bool) (change : A → A) (xs : List A)
    → length (change_first p change xs) ≡ length xs
unfolding change_first
length-change_first p change [] = refl
length-change_first p change (x ∷ xs) =
    cond_both (p x) (change x ∷ xs) (x ∷ change_first p change xs) (λ ys. length ys ≡ suc (length xs))
    (λ _. refl) (λ _. ap suc (length-change_first p change xs))

pub map-change_first : {A K : Type 0} (key : A → K) (p : A → Bool) (change : A → A) → ((x : A) → key (change x) ≡ key x)
    → (xs : List A) → map key (change_first p change xs) ≡ map key xs
unfolding change_first
map-change_first key p change keeps [] = refl
map-change_first key p change keeps (x ∷ xs) =
    cond_both (p x) (change x ∷ xs) (x ∷ change_first p change xs) (λ ys. map key ys ≡ map key (x ∷ xs))
    (λ _. ap (λ k. k ∷ map key xs) (keeps x)) (λ _. ap (λ ks. key x ∷ ks) (map-change_first key p change keeps xs))

find_changed_by : {A : Type 0} (p : A → Bool) (change : A → A) (x : A) (xs ys : List A) (b : Bool) → p x ≡ b
    → (p x ≡ true → p (change x) ≡ true) → find p ys ≡ option_map change (find p xs)
    → find p (if b then change x ∷ xs else x ∷ ys) ≡ option_map change (if b then Some x else find p xs)
find_changed_by p change x xs ys true test keeps rest =
    cond-true (p (change x)) (Some (change x)) (find p xs) (keeps test)
find_changed_by p change x xs ys false test keeps rest = cond-false (p x) (Some x) (find p ys) test ∙ rest

-- the item that the test finds is the changed one
pub find-change_first : {A : Type 0} (p : A → Bool) (change : A → A) → ((x : A) → p x ≡ true → p (change x) ≡ true)
    → (xs : List A) → find p (change_first p change xs) ≡ option_map change (find p xs)
unfolding change_first
find-change_first p change keeps [] = refl
find-change_first p change keeps (x ∷ xs) =
    find_changed_by p change x xs (change_first p change xs) (p x) refl (keeps x) (find-change_first p change keeps xs)

find_other_by : {A : Type 0} (p q : A → Bool) (change : A → A) (x : A) (xs ys : List A) (b : Bool) → p x ≡ b
    → (p x ≡ true → (q x ≡ false) × (q (change x) ≡ false)) → find q ys ≡ find q xs
    → find q (if b then change x ∷ xs else x ∷ ys) ≡ find q (x ∷ xs)
find_other_by p q change x xs ys true test fails rest =
    cond-false (q (change x)) (Some (change x)) (find q xs) (fails test).1
    ∙ sym (cond-false (q x) (Some x) (find q xs) (fails test).0)
find_other_by p q change x xs ys false test fails rest = ap (λ found. if q x then Some x else found) rest

-- another test, which the changed item fails before and after, finds what it found
pub find-change_first_other : {A : Type 0} (p q : A → Bool) (change : A → A)
    → ((x : A) → p x ≡ true → (q x ≡ false) × (q (change x) ≡ false)) → (xs : List A)
    → find q (change_first p change xs) ≡ find q xs
unfolding change_first
find-change_first_other p q change fails [] = refl
find-change_first_other p q change fails (x ∷ xs) =
    find_other_by p q change x xs (change_first p change xs) (p x) refl (fails x)
    (find-change_first_other p q change fails xs)

-- an item that is found stays found when items are put after it
pub find-append_found : {A : Type 0} (p : A → Bool) (xs ys : List A) (y : A) → find p xs ≡ Some y
    → find p (xs ++ ys) ≡ Some y
find-append_found p xs ys y found = find-append p xs ys ∙ ap (λ o. option_or o (find p ys)) found

is_some_by : {A : Type 0} (b : Bool) (o : Option A) (r : Bool) (x : A) → is_some o ≡ r
    → is_some (if b then Some x else o) ≡ (b || r)
is_some_by true o r x rest = refl
is_some_by false o r x rest = rest

pub is_some-find_number : {A : Type 0} (key : A → ℕ) (n : ℕ) (xs : List A)
    → is_some (find (λ x. nat_eq n (key x)) xs) ≡ has_number n (map key xs)
is_some-find_number key n [] = refl
is_some-find_number key n (x ∷ xs) =
    is_some_by (nat_eq n (key x)) (find (λ y. nat_eq n (key y)) xs) (has_number n (map key xs)) x
    (is_some-find_number key n xs)

-- the limit is no number of the list
pub rises-fresh : (limit : ℕ) (ns : List ℕ) → Rises limit ns → has_number limit ns ≡ false
unfolding Rises
rises-fresh limit [] rises = refl
rises-fresh limit (n ∷ ns) rises =
    or_from (nat_eq limit n) (has_number limit ns) (ne_eqb limit n (λ same. below_not limit n same rises.0))
    (rises-fresh limit ns rises.2)
  where
    below_not : (m n : ℕ) → m ≡ n → n < m → ⊥
    below_not m n same below = omega arith

-- the limit may follow
pub rises-append : (limit : ℕ) (ns : List ℕ) → Rises limit ns → Rises (limit + 1) (ns ++ limit ∷ [])
unfolding Rises
rises-append limit [] rises = (omega arith, tt, tt)
rises-append limit (n ∷ ns) rises = (
  omega arith,
  each-append (λ m. n < m) ns (limit ∷ []) rises.1 (rises.0, tt),
  rises-append limit ns rises.2,
)

below_same : (n m limit : ℕ) → n ≡ m → m < limit → n < limit
below_same n m limit same below = omega arith

-- numbers below a limit
pub rises-below : (limit n : ℕ) (ns : List ℕ) → Rises limit ns → has_number n ns ≡ true → n < limit
unfolding Rises
rises-below limit n [] rises has = cc
rises-below limit n (m ∷ ns) rises has = elim (or_cases (nat_eq n m) (has_number n ns) has) [
  | inl same ↦ below_same n m limit (eqb-true n m same) rises.0
  | inr later ↦ rises-below limit n ns rises.2 later
]

-- a number at the head, after it, and at the end
pub has_number-head : (n : ℕ) (ns : List ℕ) → has_number n (n ∷ ns) ≡ true
has_number-head n ns = ap (λ b. b || has_number n ns) (eq-eqb n n refl)

pub has_number-later : (f n : ℕ) (ns : List ℕ) → has_number f ns ≡ true → has_number f (n ∷ ns) ≡ true
has_number-later f n ns later = or_right (nat_eq f n) (has_number f ns) later

pub has_number-last : (f g : ℕ) (ns : List ℕ) → has_number g (ns ++ f ∷ []) ≡ (nat_eq g f || has_number g ns)
has_number-last f g [] = refl
has_number-last f g (n ∷ ns) =
    ap (λ b. nat_eq g n || b) (has_number-last f g ns) ∙ by_tests (nat_eq g n) (nat_eq g f) (has_number g ns)
  where
    by_tests : (a b r : Bool) → (a || (b || r)) ≡ (b || (a || r))
    by_tests true true r = refl
    by_tests true false r = refl
    by_tests false b r = refl
