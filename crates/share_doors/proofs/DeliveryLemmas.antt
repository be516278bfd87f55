-- Packets that are given to each value of a slab, key by key.
use Rattle.std.proofs.Common.{◌≡◌, ◌≢◌, ◌⊎◌, ◌+◌, ◌<◌, ◌≤◌, ℕ, Option, None, length, refl, ◌∙◌, sym, subst, inl, inr}
use Rattle.std.proofs.Common.{arith}
use Rattle.std.proofs.lemmas.Bool.{cases_eq, cases_lt}
use Rattle.std.proofs.lemmas.List.{get_or_past}
use Rattle.slab.specs.Slab.{Slab, get}

module _ {T : Type 0} (Given : Option T → Option T → Type 0) where
  -- each value below this key was given, and no other
  pub record GivenBelow (key : ℕ) (old now : Slab T) : Type 0 where
    pub below : (k : ℕ) → k < key → Given (get old k) (get now k)
    pub rest : (k : ℕ) → key ≤ k → get now k ≡ get old k

  pub given_none : (old now : Slab T) → now ≡ old → GivenBelow 0 old now
  given_none old now same = record {
    below = λ k few. absurd (omega (arith, few));
    rest = λ k more. subst (λ (x : Slab T). get x k ≡ get old k) (sym same) refl;
  }

  -- the value at this key was given, and no other
  pub given_at : (key : ℕ) (old now new : Slab T) → GivenBelow key old now → Given (get now key) (get new key)
      → ((k : ℕ) → k ≢ key → get new k ≡ get now k) → GivenBelow (key + 1) old new
  given_at key old now new before here others = record {
    below = λ k few. at k (cases_eq k key) few;
    rest = λ k more. others k (λ same. omega (arith, same, more)) ∙ before.rest k (omega (arith, more));
  }
    where
      at : (k : ℕ) → (k ≡ key) ⊎ (k ≢ key) → k < key + 1 → Given (get old k) (get new k)
      at k (inl same) few =
          let was : Given (get old key) (get new key)
          = subst (λ (x : Option T). Given x (get new key)) (before.rest key (omega arith)) here in
          subst (λ (x : ℕ). Given (get old x) (get new x)) (sym same) was
      at k (inr other) few =
          subst (λ (x : Option T). Given (get old k) x) (sym (others k other))
          (before.below k (omega (arith, other, few)))

  -- all keys are below
  pub given_all : Given None None → (key : ℕ) (old now : Slab T) → length old.slots ≤ key → GivenBelow key old now
      → (k : ℕ) → Given (get old k) (get now k)
  given_all none key old now all before k = at (cases_lt k key)
    where
      at : (k < key) ⊎ (key ≤ k) → Given (get old k) (get now k)
      at (inl few) = before.below k few
      at (inr more) =
          let gone : get old k ≡ None = get_or_past old.slots k None (omega (arith, all, more)) in
          let is : get now k ≡ None = before.rest k more ∙ gone in
          subst (λ (x : Option T). Given (get old k) x) (sym is)
          (subst (λ (x : Option T). Given x None) (sym gone) none)
