-- Sums over lists, and sums over the parts into which a list is divided.
use Rattle.std.proofs.Common.{◌≡◌, ℕ, ◌+◌, ◌*◌, ◌≤◌, zero, suc, Bool, true, false, cond, List, [], ◌∷◌, filter, sum_by}
use Rattle.std.proofs.Common.{count_by, bytes_eq, refl, sym, ap, ◌∙◌, arith}
use Rattle.std.proofs.lemmas.List.Sums.{sum_by-cons}
use Rattle.std.proofs.lemmas.Slice.Eq.{bytes_eq-Decides}
use Rattle.share_model.specs.lists.Each.{Each}

-- names are equal if and only if their bytes are
pub same_name : (a b : List ℕ) → bytes_eq a b ≡ true → a ≡ b
same_name a b e = (bytes_eq-Decides a b).0 e

pub name_same : (a b : List ℕ) → a ≡ b → bytes_eq a b ≡ true
name_same a b e = (bytes_eq-Decides a b).1 e

pub name_refl : (a : List ℕ) → bytes_eq a a ≡ true
name_refl a = name_same a a refl

pub name_sym : (a b : List ℕ) → bytes_eq a b ≡ bytes_eq b a
name_sym a b = by (bytes_eq a b) (bytes_eq b a) refl refl
  where
    by : (x y : Bool) → bytes_eq a b ≡ x → bytes_eq b a ≡ y → bytes_eq a b ≡ bytes_eq b a
    by true y e f = e ∙ sym (name_same b a (sym (same_name a b e)))
    by false true e f = name_same a b (sym (same_name b a f)) ∙ sym f
    by false false e f = e ∙ sym f

module _ {X : Type 0} where
  pub sum_by-same : (f g : X → ℕ) (xs : List X) → ((x : X) → f x ≡ g x) → sum_by f xs ≡ sum_by g xs
  sum_by-same f g [] e = refl
  sum_by-same f g (x ∷ xs) e =
      sum_by-cons f x xs ∙ ap (λ n. n + sum_by f xs) (e x) ∙ ap (λ n. g x + n) (sum_by-same f g xs e)
      ∙ sym (sum_by-cons g x xs)

  -- if each element has a fact, terms need be equal or smaller only under it
  pub sum_by-same_of : (P : X → Type 0) (f g : X → ℕ) (xs : List X) → Each P xs → ((x : X) → P x → f x ≡ g x)
      → sum_by f xs ≡ sum_by g xs
  sum_by-same_of P f g [] each e = refl
  sum_by-same_of P f g (x ∷ xs) each e =
      sum_by-cons f x xs ∙ ap (λ n. n + sum_by f xs) (e x each.0) ∙ ap (λ n. g x + n) (sum_by-same_of P f g xs each.1 e)
      ∙ sym (sum_by-cons g x xs)

  pub sum_by-le_of : (P : X → Type 0) (f g : X → ℕ) (xs : List X) → Each P xs → ((x : X) → P x → f x ≤ g x)
      → sum_by f xs ≤ sum_by g xs
  sum_by-le_of P f g [] each e = omega arith
  sum_by-le_of P f g (x ∷ xs) each e =
      let rest = sum_by-le_of P f g xs each.1 e in
      let first = e x each.0 in
      omega (arith, sum_by-cons f x xs, sum_by-cons g x xs)

  -- each term is at most the sum
  pub each-term : (f : X → ℕ) (n : ℕ) (xs : List X) → sum_by f xs ≤ n → Each (λ x. f x ≤ n) xs
  each-term f n [] few = tt
  each-term f n (x ∷ xs) few =
      let sum = sum_by-cons f x xs in (omega arith, each-term f n xs (omega arith))

  pub Each-all : (P : X → Type 0) (xs : List X) → ((x : X) → P x) → Each P xs
  Each-all P [] f = tt
  Each-all P (x ∷ xs) f = (f x, Each-all P xs f)

  -- an item that passes a test keeps its fact, and has the test
  pub Each-filter : (P : X → Type 0) (p : X → Bool) (xs : List X) → Each P xs
      → Each (λ x. P x × (p x ≡ true)) (filter p xs)
  Each-filter P p [] each = tt
  Each-filter P p (x ∷ xs) each = by (p x) refl (Each-filter P p xs each.1)
    where
      by : (b : Bool) → p x ≡ b → Each (λ x. P x × (p x ≡ true)) (filter p xs)
          → Each (λ x. P x × (p x ≡ true)) (cond b (x ∷ filter p xs) (filter p xs))
      by true e rest = ((each.0, e), rest)
      by false e rest = rest

  pub sum_by-filter : (f : X → ℕ) (p : X → Bool) (xs : List X)
      → sum_by f (filter p xs) ≡ sum_by (λ x. cond (p x) (f x) 0) xs
  sum_by-filter f p [] = refl
  sum_by-filter f p (x ∷ xs) = by (p x) refl (sum_by-filter f p xs)
    where
      by : (b : Bool) → p x ≡ b → sum_by f (filter p xs) ≡ sum_by (λ x. cond (p x) (f x) 0) xs
          → sum_by f (cond b (x ∷ filter p xs) (filter p xs)) ≡ sum_by (λ x. cond (p x) (f x) 0) (x ∷ xs)
      by true e rest =
          let here = ap {B = ℕ} (λ b. cond b (f x) 0) e in
          omega (arith, sum_by-cons f x (filter p xs), sum_by-cons (λ x. cond (p x) (f x) 0) x xs)
      by false e rest =
          let here = ap {B = ℕ} (λ b. cond b (f x) 0) e in
          omega (arith, sum_by-cons (λ x. cond (p x) (f x) 0) x xs)

  -- a test that no element passes counts none
  pub count_by-none : (p : X → Bool) (xs : List X) → ((x : X) → p x ≡ false) → count_by p xs ≡ 0
  count_by-none p [] e = refl
  count_by-none p (x ∷ xs) e =
      let rest = count_by-none p xs e in
      let here = ap {B = ℕ} (λ b. cond b 1 0) (e x) in
      sum_by-cons (λ x. cond (p x) 1 0) x xs ∙ omega arith

  pub count_by-zero : (p : X → Bool) (xs : List X) → count_by p xs ≡ 0 → Each (λ x. p x ≡ false) xs
  count_by-zero p [] none = tt
  count_by-zero p (x ∷ xs) none = by (p x) refl (count_by-zero p xs)
    where
      by : (b : Bool) → p x ≡ b → (count_by p xs ≡ 0 → Each (λ x. p x ≡ false) xs)
          → (p x ≡ false) × Each (λ x. p x ≡ false) xs
      by true e rest =
          let here = ap {B = ℕ} (λ b. cond b 1 0) e in
          absurd (omega (arith, sum_by-cons (λ x. cond (p x) 1 0) x xs))
      by false e rest = (e, rest (omega (arith, sum_by-cons (λ x. cond (p x) 1 0) x xs)))

-- Parts of a list that are named by c: R c says what is in the part.
module _ {C T : Type 0} (R : C → T → Bool) (w : T → ℕ) where
  abbrev pub part : List T → C → ℕ
  part ts c = sum_by w (filter (R c) ts)

  part-cons : (t : T) (ts : List T) (c : C) → part (t ∷ ts) c ≡ cond (R c t) 1 0 * w t + part ts c
  part-cons t ts c = by (R c t)
    where
      by : (b : Bool) → sum_by w (cond b (t ∷ filter (R c) ts) (filter (R c) ts)) ≡ cond b 1 0 * w t + part ts c
      by true = sum_by-cons w t (filter (R c) ts) ∙ omega arith
      by false = omega arith

  times_more : (b : Bool) (n k : ℕ) → (cond b 1 0 + n) * k ≡ cond b 1 0 * k + n * k
  times_more true n k = omega arith
  times_more false n k = omega arith

  -- an element counts in the sum over all parts as often as it is in one
  pub parts-cons : (t : T) (ts : List T) (cs : List C)
      → sum_by (part (t ∷ ts)) cs ≡ count_by (λ c. R c t) cs * w t + sum_by (part ts) cs
  parts-cons t ts [] = omega arith
  parts-cons t ts (c ∷ cs) =
      let rest = parts-cons t ts cs in
      let here = part-cons t ts c in
      let count = ap (λ n. n * w t) (sum_by-cons (λ c. cond (R c t) 1 0) c cs)
      ∙ times_more (R c t) (count_by (λ c. R c t) cs) (w t) in
      let left = sum_by-cons (part (t ∷ ts)) c cs in
      let right = sum_by-cons (part ts) c cs in
      omega arith

  at_least : (n k : ℕ) → 1 ≤ n → k ≤ n * k
  at_least zero k h = absurd (omega arith)
  at_least (suc n) k h = omega arith

  -- if each element is in some part, the parts sum to at least the whole
  pub parts-cover : (cs : List C) (ts : List T) → Each (λ t. 1 ≤ count_by (λ c. R c t) cs) ts
      → sum_by w ts ≤ sum_by (part ts) cs
  parts-cover cs [] each = omega arith
  parts-cover cs (t ∷ ts) each =
      let rest = parts-cover cs ts each.1 in
      let here = at_least (count_by (λ c. R c t) cs) (w t) each.0 in
      omega (arith, sum_by-cons w t ts, parts-cons t ts cs)

-- if each element is in at most one part, of either kind, the parts sum to at most the whole
module _ {C D T : Type 0} (R : C → T → Bool) (S : D → T → Bool) (w : T → ℕ) where
  at_most : (n k : ℕ) → n ≤ 1 → n * k ≤ k
  at_most zero k h = omega arith
  at_most (suc zero) k h = omega arith
  at_most (suc (suc n)) k h = absurd (omega arith)

  pub parts-apart : (cs : List C) (ds : List D) (ts : List T)
      → Each (λ t. count_by (λ c. R c t) cs + count_by (λ d. S d t) ds ≤ 1) ts
      → sum_by (part R w ts) cs + sum_by (part S w ts) ds ≤ sum_by w ts
  parts-apart cs ds [] each = both cs ds
    where
      nothing : {E : Type 0} (es : List E) → sum_by (λ e. 0) es ≡ 0
      nothing [] = refl
      nothing (e ∷ es) = sum_by-cons (λ e. 0) e es ∙ omega (arith, nothing es)

      both : (cs : List C) (ds : List D) → sum_by (λ c. 0) cs + sum_by (λ d. 0) ds ≤ 0
      both cs ds = omega (arith, nothing cs, nothing ds)
  parts-apart cs ds (t ∷ ts) each =
      let rest = parts-apart cs ds ts each.1 in
      let n = count_by (λ c. R c t) cs in
      let m = count_by (λ d. S d t) ds in
      let here = at_most (n + m) (w t) each.0 in
      omega (arith, sum_by-cons w t ts, parts-cons R w t ts cs, parts-cons S w t ts ds)
