-- Laws of lists in another order.
use Rattle.std.proofs.Common.{◌≡◌, ◌<◌, ℕ, zero, suc, List, [], ◌∷◌, length, get_or, set, ◌⊎◌, inl, inr, fold, Contains}
use Rattle.std.proofs.Common.{IsPermutation, refl, sym, ap, subst, ◌∙◌, arith}
use Rattle.std.specs.List.{swap}
use Rattle.std.proofs.lemmas.List.{get_or_default}
use Rattle.std.proofs.lemmas.List.Edits.{swap_is}
use Rattle.std.proofs.lemmas.List.Sorted.{IsPermutation-keeps, IsPermutation-refl, IsPermutation-sym}
use Rattle.std.proofs.lemmas.List.Sorted.{IsPermutation-swap}
use Rattle.std.proofs.lemmas.List.Sorted.{IsPermutation-trans, Contains-permutation}
use Rattle.share_model.specs.lists.Each.{Each}

pub contains-cons : {A : Type 0} (y x : A) (ys : List A) → Contains ys x → Contains (y ∷ ys) x
contains-cons y x ys there = (suc there.0, omega (arith, there.1), there.2)

pub contains-head : {A : Type 0} (x : A) (xs : List A) → Contains (x ∷ xs) x
contains-head x xs = (0, omega arith, refl)

pub contains_cases : {A : Type 0} (y x : A) (ys : List A) → Contains (y ∷ ys) x → (y ≡ x) ⊎ Contains ys x
contains_cases {A = A} y x ys there = by_index there.0 there.1 there.2
  where
    by_index : (k : ℕ) → k < suc (length ys) → get_or (y ∷ ys) k x ≡ x → (y ≡ x) ⊎ Contains ys x
    by_index zero within found = inl found
    by_index (suc k) within found = inr (k, omega arith, found)

pub each-contains : {A : Type 0} (P : A → Type 0) (xs : List A) (x : A) → Each P xs → Contains xs x → P x
each-contains P [] x all there = absurd (omega (arith, there.1))
each-contains P (y ∷ ys) x all there =
    elim (contains_cases y x ys there) [
      | inl here ↦ subst P here all.0
      | inr later ↦ each-contains P ys x all.1 later
    ]

-- two steps of a fold, of these items of the list, give the same in either order
abbrev pub StepsCommute : {A B : Type 0} → (B → A → B) → List A → Type 0
StepsCommute {A = A} {B = B} f xs =
    (x y : A) → Contains xs x → Contains xs y → (b : B) → f (f b x) y ≡ f (f b y) x

module _ {A B : Type 0} (f : B → A → B) where
  steps-rest : (x : A) (xs : List A) → StepsCommute f (x ∷ xs) → StepsCommute f xs
  steps-rest x xs commute = λ y z at_y at_z. commute y z (contains-cons x y xs at_y) (contains-cons x z xs at_z)

  steps-skip : (x y : A) (ys : List A) → StepsCommute f (x ∷ y ∷ ys) → StepsCommute f (x ∷ ys)
  steps-skip x y ys commute = λ v w at_v at_w. commute v w (later v at_v) (later w at_w)
    where
      later : (z : A) → Contains (x ∷ ys) z → Contains (x ∷ y ∷ ys) z
      later z there =
          elim (contains_cases x z ys there) [
            | inl here ↦ subst (λ (a : A). Contains (x ∷ y ∷ ys) a) here (contains-head x (y ∷ ys))
            | inr rest ↦ contains-cons x z (y ∷ ys) (contains-cons y z ys rest)
          ]

  -- x in front, exchanged with z after it
  fold-front : (x z : A) (xs : List A) (j : ℕ) → j < length xs → get_or xs j z ≡ z → StepsCommute f (x ∷ xs) → (b : B)
      → fold f (f b x) xs ≡ fold f (f b z) (set xs j x)
  fold-front x z [] j within at commute b = absurd (omega (arith, within))
  fold-front x z (y ∷ ys) zero within at commute b =
      ap (λ n. fold f n ys)
      (commute x y (contains-head x (y ∷ ys)) (contains-cons x y (y ∷ ys) (contains-head y ys)) b)
      ∙ ap (λ v. fold f (f (f b v) x) ys) at
  fold-front x z (y ∷ ys) (suc j) within at commute b =
      let at_y = contains-cons x y (y ∷ ys) (contains-head y ys) in
      let at_z = contains-cons x z (y ∷ ys) (contains-cons y z ys (j, omega arith, at)) in
      ap (λ n. fold f n ys) (commute x y (contains-head x (y ∷ ys)) at_y b)
      ∙ fold-front x z ys j (omega arith) at (steps-skip x y ys commute) (f b y)
      ∙ ap (λ n. fold f n (set ys j x)) (commute y z at_y at_z b)

  fold-exchange : (x y : A) (xs : List A) (i j : ℕ) → i < length xs → j < length xs → get_or xs i x ≡ x
      → get_or xs j y ≡ y → StepsCommute f xs → (b : B) → fold f b xs ≡ fold f b (set (set xs i y) j x)
  fold-exchange x y [] i j within_i within_j at_x at_y commute b = absurd (omega (arith, within_i))
  fold-exchange x y (w ∷ ws) zero zero within_i within_j at_x at_y commute b = ap (λ v. fold f (f b v) ws) at_x
  fold-exchange x y (w ∷ ws) zero (suc j) within_i within_j at_x at_y commute b =
      ap (λ v. fold f (f b v) ws) at_x
      ∙ fold-front x y ws j (omega arith) at_y (subst (λ (v : A). StepsCommute f (v ∷ ws)) at_x commute) b
  fold-exchange x y (w ∷ ws) (suc i) zero within_i within_j at_x at_y commute b =
      ap (λ v. fold f (f b v) ws) at_y
      ∙ fold-front y x ws i (omega arith) at_x (subst (λ (v : A). StepsCommute f (v ∷ ws)) at_y commute) b
  fold-exchange x y (w ∷ ws) (suc i) (suc j) within_i within_j at_x at_y commute b =
      fold-exchange x y ws i j (omega arith) (omega arith) at_x at_y (steps-rest w ws commute) (f b w)

  fold-swap : (xs : List A) (i j : ℕ) → i < length xs → j < length xs → StepsCommute f xs → (b : B)
      → fold f b xs ≡ fold f b (swap xs i j)
  fold-swap [] i j within_i within_j commute b = absurd (omega (arith, within_i))
  fold-swap (d ∷ ys) i j within_i within_j commute b =
      let x = get_or (d ∷ ys) i d in
      let y = get_or (d ∷ ys) j d in
      fold-exchange x y (d ∷ ys) i j within_i within_j (get_or_default (d ∷ ys) i x d within_i)
      (get_or_default (d ∷ ys) j y d within_j) commute b
      ∙ ap (fold f b) (swap_is (d ∷ ys) i j d within_i within_j)

  -- a fold whose steps commute gives the same in every order
  pub fold-permutation : (xs ys : List A) → StepsCommute f xs → IsPermutation xs ys → (b : B)
      → fold f b ys ≡ fold f b xs
  fold-permutation xs ys commute other =
      (IsPermutation-keeps xs (λ l. IsPermutation xs l × ((b : B) → fold f b l ≡ fold f b xs))
      (IsPermutation-refl xs, λ b. refl)
      (λ l i j within_i within_j so_far.
      let back = IsPermutation-sym xs l so_far.0 in (
        IsPermutation-trans xs l (swap l i j) so_far.0
            (IsPermutation-swap l (swap l i j) i j within_i within_j refl),
        λ b. sym (fold-swap l i j within_i within_j
            (λ x y at_x at_y. commute x y (Contains-permutation l xs x back at_x)
            (Contains-permutation l xs y back at_y))
            b) ∙ so_far.1 b,
      ))
      ys other).1
