-- Laws of the next flow: the search for it finds it, and there is at most one.
use Rattle.std.proofs.Common.{◌≡◌, ◌≢◌, ℕ, ◌<◌, true, false, T, IsTrue, List, [], ◌∷◌, Option, None, Some, option_map}
use Rattle.std.proofs.Common.{inl, inr, refl, sym, ap, subst, ◌∙◌, arith, rules}
use Rattle.std.specs.Prelude.{ℤ, ◌<ℤ◌, ◌≤ℤ◌, int_lt, if◌then◌else◌}
use Rattle.std.proofs.lemmas.Bool.{cases_eq}
use Rattle.std.proofs.lemmas.Int.{ints, by_lt_z}
use Rattle.std.specs.Ordering.{nat_cmp}
use Rattle.std.specs.FinMap.{FinMap, get, entries, find, is_sorted, get-entries, entries_sorted}
use Rattle.std.specs.FinMap.Entries.{below_all}
use Rattle.share_model.specs.declared.stride.Client.{Client}
use Rattle.share_model.proofs.lemmas.stride.MapLemmas.{found_later, find_after, find_head, found_in, and_left}
use Rattle.share_model.proofs.lemmas.stride.MapLemmas.{and_right}
use Rattle.share_model.specs.stride.Moves.{NextIsUnique, Precedes, Competes, IsNext, IsNextFlow, first_competing}
use Rattle.share_model.specs.stride.Moves.{earlier, next}

pub Precedes-le : (p q : ℤ) (f g : ℕ) → Precedes p f q g → p ≤ℤ q
Precedes-le p q f g (inl less) = omega (arith, ints)
Precedes-le p q f g (inr tie) = let e = tie.0 in omega (arith, ints)

pub Precedes-le_lt : (p q : ℤ) (f g : ℕ) → p ≤ℤ q → f < g → Precedes p f q g
Precedes-le_lt p q f g le lt = by_lt_z p q (λ less. inl less) (λ back. inr (omega (arith, ints), lt))

pub Precedes-antisym : (p q : ℤ) (f g : ℕ) → Precedes p f q g → Precedes q g p f → ⊥
Precedes-antisym p q f g (inl less) (inl more) = omega (arith, ints)
Precedes-antisym p q f g (inl less) (inr tie) = let e = tie.0 in omega (arith, ints)
Precedes-antisym p q f g (inr tie) (inl more) = let e = tie.0 in omega (arith, ints)
Precedes-antisym p q f g (inr tie) (inr other) = omega (arith, tie.1, other.1)

-- e is among the entries, competes, and precedes each other one that does
record IsFirstClient (es : List (ℕ × Client)) (e : ℕ × Client) : Type 0 where
  found : find nat_cmp e.0 es ≡ Some e.1
  competing : IsTrue e.1.competes
  least : (g : ℕ) (d : Client) → find nat_cmp g es ≡ Some d → IsTrue d.competes → g ≢ e.0
      → Precedes e.1.pass e.0 d.pass g

IsFirstOf : List (ℕ × Client) → Option (ℕ × Client) → Type 0
IsFirstOf es None = (g : ℕ) (d : Client) → find nat_cmp g es ≡ Some d → IsTrue d.competes → ⊥
IsFirstOf es (Some e) = IsFirstClient es e

same_client : (c d : Client) → d ≡ c → c.competes ≡ false → IsTrue d.competes → ⊥
same_client c d e idle h = grind rules

-- a client that does not compete is passed over
IsFirstOf-skip : (e : ℕ × Client) (es : List (ℕ × Client)) → T (below_all nat_cmp e.0 es) → e.1.competes ≡ false
    → (o : Option (ℕ × Client)) → IsFirstOf es o → IsFirstOf (e ∷ es) o
unfolding IsFirstOf
IsFirstOf-skip e es below idle None none = λ g d found competes.
    elim (found_in e es g d found) [
      | inl here ↦ same_client e.1 d here.1 idle competes
      | inr rest ↦ none g d rest competes
    ]
IsFirstOf-skip e es below idle (Some b) first = record {
  found = find_after e es b.0 b.1 below first.found;
  competing = first.competing;
  least = λ g d found competes apart.
      elim (found_in e es g d found) [
        | inl here ↦ absurd (same_client e.1 d here.1 idle competes)
        | inr rest ↦ first.least g d rest competes apart
      ];
}

-- e competes, and none of the rest precedes it
IsFirstClient-head : (e : ℕ × Client) (es : List (ℕ × Client)) → T (below_all nat_cmp e.0 es) → IsTrue e.1.competes
    → ((g : ℕ) (d : Client) → find nat_cmp g es ≡ Some d → IsTrue d.competes → e.1.pass ≤ℤ d.pass)
    → IsFirstClient (e ∷ es) e
IsFirstClient-head e es below competing ahead = record {
  found = find_head e es;
  competing = competing;
  least = λ g d found competes apart.
      elim (found_in e es g d found) [
        | inl here ↦ absurd (apart here.0)
        | inr rest ↦ Precedes-le_lt e.1.pass d.pass e.0 g (ahead g d rest competes) (found_later e.0 es g d below rest)
      ];
}

-- the first of the rest comes before e
IsFirstClient-later : (e b : ℕ × Client) (es : List (ℕ × Client)) → T (below_all nat_cmp e.0 es) → b.1.pass <ℤ e.1.pass
    → IsFirstClient es b → IsFirstClient (e ∷ es) b
IsFirstClient-later e b es below lower first = record {
  found = find_after e es b.0 b.1 below first.found;
  competing = first.competing;
  least = λ g d found competes apart.
      elim (found_in e es g d found) [
        | inl here ↦ inl (subst (λ (c : Client). b.1.pass <ℤ c.pass) (sym here.1) lower)
        | inr rest ↦ first.least g d rest competes apart
      ];
}

IsFirstClient-le : (b : ℕ × Client) (es : List (ℕ × Client)) → IsFirstClient es b → (g : ℕ) (d : Client)
    → find nat_cmp g es ≡ Some d → IsTrue d.competes → b.1.pass ≤ℤ d.pass
IsFirstClient-le b es first g d found competes =
    elim (cases_eq g b.0) [
      | inl same ↦
          let twice : Some d ≡ Some b.1 = sym found ∙ ap (λ n. find nat_cmp n es) same ∙ first.found in
          let is : d ≡ b.1 = cc in
          subst (λ (c : Client). b.1.pass ≤ℤ c.pass) (sym is) (omega (arith, ints))
      | inr apart ↦ Precedes-le _ _ _ _ (first.least g d found competes apart)
    ]

IsFirstClient-earlier : (e : ℕ × Client) (es : List (ℕ × Client)) → T (below_all nat_cmp e.0 es) → IsTrue e.1.competes
    → (o : Option (ℕ × Client)) → IsFirstOf es o → IsFirstClient (e ∷ es) (earlier e o)
unfolding IsFirstOf
IsFirstClient-earlier e es below competing None none =
    IsFirstClient-head e es below competing (λ g d found competes. absurd (none g d found competes))
IsFirstClient-earlier e es below competing (Some b) first =
    elim (int_lt b.1.pass e.1.pass) as
    (λ t. int_lt b.1.pass e.1.pass ≡ t → IsFirstClient (e ∷ es) (if t then b else e)) [
      | true ↦ λ lower. IsFirstClient-later e b es below (omega (arith, ints)) first
      | false ↦ λ higher. IsFirstClient-head e es below competing
          (λ g d found competes. let le = IsFirstClient-le b es first g d found competes in omega (arith, ints))
    ] refl

IsFirstOf-first_competing : (es : List (ℕ × Client)) → T (is_sorted nat_cmp es) → IsFirstOf es (first_competing es)
unfolding IsFirstOf
IsFirstOf-first_competing [] sorted = λ g d found competes. absurd (cc)
IsFirstOf-first_competing (e ∷ es) sorted =
    let below = and_left (below_all nat_cmp e.0 es) (is_sorted nat_cmp es) sorted in
    let rest = IsFirstOf-first_competing es (and_right (below_all nat_cmp e.0 es) (is_sorted nat_cmp es) sorted) in
    elim e.1.competes as (λ t. e.1.competes ≡ t
    → IsFirstOf (e ∷ es) (if t then Some (earlier e (first_competing es)) else first_competing es)) [
      | true ↦ λ competes. IsFirstClient-earlier e es below competes (first_competing es) rest
      | false ↦ λ idle. IsFirstOf-skip e es below idle (first_competing es) rest
    ] refl

IsNext-first : (m : FinMap nat_cmp Client) (o : Option (ℕ × Client)) → IsFirstOf (entries m) o
    → IsNext m (option_map (λ e. e.0) o)
unfolding IsFirstOf
IsNext-first m None none = λ g d competes. none g d (sym (get-entries m g) ∙ competes.found) competes.competing
IsNext-first m (Some e) first = record {
  chosen = e.1;
  competes = record { found = get-entries m e.0 ∙ first.found; competing = first.competing };
  least = λ g d competes apart. first.least g d (sym (get-entries m g) ∙ competes.found) competes.competing apart;
}

-- the function meets the relation, and the relation has one answer
pub IsNext-next : (m : FinMap nat_cmp Client) → IsNext m (next m)
unfolding next
IsNext-next m = IsNext-first m (first_competing (entries m)) (IsFirstOf-first_competing (entries m) (entries_sorted m))

pub IsNext-unique : NextIsUnique
IsNext-unique m None None p q = refl
IsNext-unique m None (Some g) p q = absurd (p g q.chosen q.competes)
IsNext-unique m (Some f) None p q = absurd (q f p.chosen p.competes)
IsNext-unique m (Some f) (Some g) p q =
    elim (cases_eq f g) [
      | inl same ↦ ap (λ n. Some n) same
      | inr apart ↦ absurd (Precedes-antisym _ _ _ _ (p.least g q.chosen q.competes (λ e. apart (sym e)))
          (q.least f p.chosen p.competes apart))
    ]

pub next_is : (m : FinMap nat_cmp Client) (a : Option ℕ) → IsNext m a → a ≡ next m
next_is m a is = IsNext-unique m a (next m) is (IsNext-next m)

-- no competing flow has a lesser pass than the next one
pub IsNextFlow-le : (m : FinMap nat_cmp Client) (f : ℕ) (first : IsNextFlow m f) (g : ℕ) (d : Client) → Competes m g d
    → first.chosen.pass ≤ℤ d.pass
IsNextFlow-le m f first g d competes =
    elim (cases_eq g f) [
      | inl same ↦
          let twice : Some d ≡ Some first.chosen = sym competes.found ∙ ap (get m) same ∙ first.competes.found in
          let is : d ≡ first.chosen = cc in
          subst (λ (c : Client). first.chosen.pass ≤ℤ c.pass) (sym is) (omega (arith, ints))
      | inr apart ↦ Precedes-le _ _ _ _ (first.least g d competes apart)
    ]
