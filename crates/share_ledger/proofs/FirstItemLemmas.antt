-- The first element that passes a test, and lists that are changed there.
use Rattle.std.proofs.Common.{◌≡◌, ℕ, ◌≤◌, ◌<◌, zero, suc, Bool, true, false, cond, List, [], ◌∷◌, ◌++◌, map}
use Rattle.std.proofs.Common.{length, get_or, set, find, position, nat_eq}
use Rattle.std.proofs.Common.{None, Some, Option}
use Rattle.std.proofs.Common.{refl, sym, ap, subst, ◌∙◌, arith, bytes_eq, if◌then◌else◌, remove}
use Rattle.std.specs.List.{list_any}
use Rattle.std.specs.List.{position_or_len}
use Rattle.std.specs.Set.{remove_key}
use Rattle.std.proofs.lemmas.Bool.Decides.{nat_tests}
use Rattle.std.proofs.lemmas.Bool.{ltb-true}
use Rattle.indexmap.specs.IndexMap.{set_value_at}
use Rattle.share_model.specs.declared.funding.OpenFlow.{OpenFlow}
use Rattle.share_model.specs.funding.Graph.{NameBytes, Graph}
use Rattle.share_model.specs.funding.Changes.{is_numbered, is_open_as, active_as, with_activity}
use Rattle.share_model.specs.lists.Change.{change_first}
use Rattle.share_model.specs.lists.Each.{Each}

-- the first element that passes stands at this place
abbrev pub IsFirstAt : {X : Type 0} → (X → Bool) → List X → ℕ → Type 0
IsFirstAt p [] i = ⊥
IsFirstAt p (x ∷ xs) zero = p x ≡ true
IsFirstAt p (x ∷ xs) (suc i) = (p x ≡ false) × IsFirstAt p xs i

module _ {X : Type 0} (p : X → Bool) where
  place-first : (xs : List X) (i : ℕ) → position_or_len p xs ≡ i → i < length xs → IsFirstAt p xs i
  place-first [] i e h = omega arith
  place-first (x ∷ xs) i e h = grind (arith, nat_tests, place-first xs)

  place-none : (xs : List X) → length xs ≤ position_or_len p xs → Each (λ x. p x ≡ false) xs
  place-none [] h = tt
  place-none (x ∷ xs) h = grind (arith, nat_tests, place-none xs)

  pub position-first : (xs : List X) (i : ℕ) → position p xs ≡ Some i → IsFirstAt p xs i
  position-first xs i e = grind (arith, nat_tests, place-first, ltb-true)

  pub position-none : (xs : List X) → position p xs ≡ None → Each (λ x. p x ≡ false) xs
  position-none xs e = grind (arith, nat_tests, place-none)

  -- the item at the first place that passes is found
  pub find-first : (xs : List X) (i : ℕ) (x : X) → IsFirstAt p xs i → x ≡ get_or xs i x → find p xs ≡ Some x
  find-first [] i x h e = absurd h
  find-first (y ∷ ys) zero x h e = ap (λ b. cond b (Some y) (find p ys)) h ∙ ap Some (sym e)
  find-first (y ∷ ys) (suc i) x h e =
      ap (λ b. cond b (Some y) (find p ys)) h.0 ∙ find-first ys i x h.1 e

  pub find-none : (xs : List X) → Each (λ x. p x ≡ false) xs → find p xs ≡ None
  find-none [] none = refl
  find-none (x ∷ xs) none = ap (λ b. cond b (Some x) (find p xs)) none.0 ∙ find-none xs none.1

  -- the item at the first place that passes is taken out
  pub remove-first : (xs : List X) (i : ℕ) → IsFirstAt p xs i → remove xs i ≡ remove_key p xs
  remove-first [] i h = absurd h
  remove-first (x ∷ xs) zero h = sym (ap (λ b. cond b xs (x ∷ remove_key p xs)) h)
  remove-first (x ∷ xs) (suc i) h =
      ap (λ l. x ∷ l) (remove-first xs i h.1) ∙ sym (ap (λ b. cond b xs (x ∷ remove_key p xs)) h.0)

  pub remove-none : (xs : List X) → Each (λ x. p x ≡ false) xs → remove_key p xs ≡ xs
  remove-none [] none = refl
  remove-none (x ∷ xs) none = ap (λ b. cond b xs (x ∷ remove_key p xs)) none.0 ∙ ap (λ l. x ∷ l) (remove-none xs none.1)

-- the item at the first place that passes is changed
pub changed-first : {X : Type 0} (p : X → Bool) (change : X → X) (xs : List X) (i : ℕ) (x : X)
    → IsFirstAt p xs i → x ≡ get_or xs i x → set xs i (change x) ≡ change_first p change xs
unfolding change_first
changed-first p change [] i x first e = absurd first
changed-first p change (y ∷ ys) zero x first e =
    ap (λ z. change z ∷ ys) e ∙ sym (ap (λ b. cond b (change y ∷ ys) (y ∷ change_first p change ys)) first)
changed-first p change (y ∷ ys) (suc i) x first e =
    ap (λ l. y ∷ l) (changed-first p change ys i x first.1 e)
    ∙ sym (ap (λ b. cond b (change y ∷ ys) (y ∷ change_first p change ys)) first.0)

pub changed-none : {X : Type 0} (p : X → Bool) (change : X → X) (xs : List X)
    → Each (λ x. p x ≡ false) xs → change_first p change xs ≡ xs
unfolding change_first
changed-none p change [] none = refl
changed-none p change (y ∷ ys) none =
    ap (λ b. cond b (change y ∷ ys) (y ∷ change_first p change ys)) none.0
    ∙ ap (λ l. y ∷ l) (changed-none p change ys none.1)

-- flows, found by their numbers
pub flow-first : (f : ℕ) (es : List (NameBytes × OpenFlow)) (i : ℕ)
    → IsFirstAt (λ (o : OpenFlow). nat_eq f o.number) (map (λ (e : NameBytes × OpenFlow). e.1) es) i
    → IsFirstAt (is_open_as f) es i
flow-first f [] i h = h
flow-first f (e ∷ es) zero h = h
flow-first f (e ∷ es) (suc i) h = (h.0, flow-first f es i h.1)

pub flow-none : (f : ℕ) (es : List (NameBytes × OpenFlow))
    → Each (λ (o : OpenFlow). nat_eq f o.number ≡ false) (map (λ (e : NameBytes × OpenFlow). e.1) es)
    → Each (λ (e : NameBytes × OpenFlow). is_open_as f e ≡ false) es
flow-none f [] h = tt
flow-none f (e ∷ es) h = (h.0, flow-none f es h.1)

-- a fact of a graph by a place or none, said of the tables whose view it is
module _ (g h : Graph) (n : ℕ) (r : Option ℕ) (view : g ≡ h) where
  abbrev at-number : OpenFlow → Bool
  at-number o = nat_eq n o.number

  pub found-flow : (i : ℕ) → r ≡ position at-number (map (λ (e : NameBytes × OpenFlow). e.1) h.flows) → r ≡ Some i
      → IsFirstAt (is_open_as n) g.flows i
  found-flow i told is =
      flow-first n g.flows i (position-first at-number _ i
      (subst (λ (k : Graph). position at-number (map (λ (e : NameBytes × OpenFlow). e.1) k.flows) ≡ Some i) (sym view)
      (sym told ∙ is)))

  pub no-flow : r ≡ position at-number (map (λ (e : NameBytes × OpenFlow). e.1) h.flows) → r ≡ None
      → Each (λ (e : NameBytes × OpenFlow). is_open_as n e ≡ false) g.flows
  no-flow told is =
      flow-none n g.flows (position-none at-number _
      (subst (λ (k : Graph). position at-number (map (λ (e : NameBytes × OpenFlow). e.1) k.flows) ≡ None) (sym view)
      (sym told ∙ is)))

  pub found-ticket : (i : ℕ) → r ≡ position (is_numbered n) h.tickets → r ≡ Some i
      → IsFirstAt (is_numbered n) g.tickets i
  found-ticket i told is =
      position-first (is_numbered n) g.tickets i
      (subst (λ (k : Graph). position (is_numbered n) k.tickets ≡ Some i) (sym view) (sym told ∙ is))

pub activity-first : (f : ℕ) (b : Bool) (es : List (NameBytes × OpenFlow)) (i : ℕ) (w : OpenFlow)
    → IsFirstAt (is_open_as f) es i → w ≡ get_or (map (λ (e : NameBytes × OpenFlow). e.1) es) i w
    → set_value_at es i (record w { active = b }) ≡ with_activity f b es
unfolding change_first
activity-first f b [] i w first e = absurd first
activity-first f b (x ∷ es) zero w first e =
    ap (λ (y : OpenFlow). (x.0, record y { active = b }) ∷ es) e
    ∙ sym (ap (λ t. cond t (active_as b x ∷ es) (x ∷ with_activity f b es)) first)
activity-first f b (x ∷ es) (suc i) w first e =
    ap (λ l. x ∷ l) (activity-first f b es i w first.1 e)
    ∙ sym (ap (λ t. cond t (active_as b x ∷ es) (x ∷ with_activity f b es)) first.0)

-- a name that is not among the keys goes last
pub insert-new : (c : NameBytes) (cs : List NameBytes) → list_any (bytes_eq c) cs ≡ false
    → (if list_any (bytes_eq c) cs then cs else cs ++ c ∷ []) ≡ cs ++ c ∷ []
insert-new c cs e = ap (λ b. cond b cs (cs ++ c ∷ [])) e
