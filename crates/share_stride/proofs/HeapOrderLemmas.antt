-- The order of a heap beside an open seat, as entries move to it.
use Rattle.std.proofs.Common.{◌≡◌, ◌≢◌, ℕ, zero, suc, ◌<◌, ◌≤◌, ◌/◌, length, set, List, inl, inr}
use Rattle.std.proofs.Common.{refl, sym, ap, subst, ◌∙◌, arith}
use Rattle.std.proofs.lemmas.Bool.{cases_eq}
use Rattle.std.proofs.lemmas.Int.{ints}
use Rattle.std.proofs.lemmas.List.{get_or-set_same, get_or-set_other}
use Rattle.share_stride.specs.declared.seating.HeapEntry.{HeapEntry}
use Rattle.share_stride.specs.Seating.{no_entry, entry_in_seat, IsBefore, IsNoLater, IsRightBelow, IsOrdered, IsOpen}
use Rattle.share_stride.specs.Seating.{FitsAbove, FitsBelow, RisesPast, SinksPast}

-- ---- The order of entries

no_later : (a b : HeapEntry) → IsBefore a b → IsNoLater a b
no_later a b (inl less) = inl less
no_later a b (inr tie) = inr (tie.0, omega (arith, tie.1))

pub IsNoLater-trans : (a b c : HeapEntry) → IsNoLater a b → IsNoLater b c → IsNoLater a c
IsNoLater-trans a b c (inl less) (inl more) = inl (omega (arith, ints))
IsNoLater-trans a b c (inl less) (inr tie) = let e = tie.0 in inl (omega (arith, ints))
IsNoLater-trans a b c (inr tie) (inl more) = let e = tie.0 in inl (omega (arith, ints))
IsNoLater-trans a b c (inr tie) (inr other) = inr (tie.0 ∙ other.0, omega (arith, tie.1, other.1))

-- at places that hold these entries
by : (a b x y : HeapEntry) → a ≡ x → b ≡ y → IsNoLater x y → IsNoLater a b
by a b x y at_a at_b no_later =
    subst (λ (l : HeapEntry). IsNoLater l b) (sym at_a) (subst (λ (r : HeapEntry). IsNoLater x r) (sym at_b) no_later)

-- ---- A write

module _ (entries : List HeapEntry) (hole : ℕ) (entry : HeapEntry) (fits : hole < length entries) where
  pub at_hole : (seat : ℕ) → seat ≡ hole → entry_in_seat (set entries hole entry) seat ≡ entry
  at_hole seat is = ap (entry_in_seat (set entries hole entry)) is ∙ get_or-set_same entries hole entry no_entry fits

  pub at_other : (seat : ℕ) → seat ≢ hole → entry_in_seat (set entries hole entry) seat ≡ entry_in_seat entries seat
  at_other seat apart = get_or-set_other entries hole seat entry no_entry apart

-- ---- An entry moves down to the open seat

module _ (count : ℕ) (entries : List HeapEntry) (hole from : ℕ) (x : HeapEntry) (fits : hole < length entries)
    (open_at : IsOpen count entries hole) (past : RisesPast entries hole x from) where
  abbrev risen : List HeapEntry
  risen = set entries hole (entry_in_seat entries from)

  here : (seat : ℕ) → seat ≡ hole → entry_in_seat risen seat ≡ entry_in_seat entries from
  here = at_hole entries hole (entry_in_seat entries from) fits

  there : (seat : ℕ) → seat ≢ hole → entry_in_seat risen seat ≡ entry_in_seat entries seat
  there = at_other entries hole (entry_in_seat entries from) fits

  pub IsOpen-rise : IsOpen count risen from
  IsOpen-rise =
      let above = past.above in
      let inside = open_at.in_heap in
      record {
        in_heap = omega arith;
        beside = λ p i below in_heap p_apart i_apart.
            elim (cases_eq i hole) [
              | inl is ↦ let same : p ≡ from = omega arith in absurd (p_apart same)
              | inr i_other ↦
                  elim (cases_eq p hole) [
                    | inl is ↦
                        by _ _ _ _ (here p is) (there i i_other)
                        (open_at.across from i above (subst (λ (q : ℕ). IsRightBelow q i) is below) in_heap)
                    | inr p_other ↦
                        by _ _ _ _ (there p p_other) (there i i_other)
                        (open_at.beside p i below in_heap p_other i_other)
                  ]
            ];
        across = λ p i upper below in_heap.
            let p_other : p ≢ hole = omega arith in
            let from_other : from ≢ hole = omega arith in
            let upper_kept = open_at.beside p from upper (omega arith) p_other from_other in
            elim (cases_eq i hole) [
              | inl is ↦ by _ _ _ _ (there p p_other) (here i is) upper_kept
              | inr i_other ↦
                  by _ _ _ _ (there p p_other) (there i i_other)
                  (IsNoLater-trans (entry_in_seat entries p) (entry_in_seat entries from) (entry_in_seat entries i)
                  upper_kept
                  (open_at.beside from i below in_heap from_other i_other))
            ];
      }

  pub FitsBelow-rise : FitsBelow count entries hole x → FitsBelow count risen from x
  FitsBelow-rise fits_below = record {
    below = λ i below in_heap.
        let above = past.above in
        let from_other : from ≢ hole = omega arith in
        elim (cases_eq i hole) [
          | inl is ↦ by x _ x _ refl (here i is) (no_later x (entry_in_seat entries from) past.before)
          | inr i_other ↦
              by x _ x _ refl (there i i_other)
              (IsNoLater-trans x (entry_in_seat entries from) (entry_in_seat entries i)
              (no_later x (entry_in_seat entries from) past.before)
              (open_at.beside from i below in_heap from_other i_other))
        ];
  }

-- ---- An entry moves up to the open seat

module _ (count : ℕ) (entries : List HeapEntry) (hole from : ℕ) (x : HeapEntry) (fits : hole < length entries)
    (open_at : IsOpen count entries hole) (past : SinksPast count entries hole x from) where
  abbrev sunk : List HeapEntry
  sunk = set entries hole (entry_in_seat entries from)

  here_up : (seat : ℕ) → seat ≡ hole → entry_in_seat sunk seat ≡ entry_in_seat entries from
  here_up = at_hole entries hole (entry_in_seat entries from) fits

  there_up : (seat : ℕ) → seat ≢ hole → entry_in_seat sunk seat ≡ entry_in_seat entries seat
  there_up = at_other entries hole (entry_in_seat entries from) fits

  pub IsOpen-sink : IsOpen count sunk from
  IsOpen-sink =
      let first = past.first.below in
      record {
        in_heap = past.first.in_heap;
        beside = λ p i below in_heap p_apart i_apart.
            elim (cases_eq i hole) [
              | inl is ↦
                  let p_other : p ≢ hole = omega arith in
                  by _ _ _ _ (there_up p p_other) (here_up i is)
                  (open_at.across p from (subst (λ (q : ℕ). IsRightBelow p q) is below) first past.first.in_heap)
              | inr i_other ↦
                  elim (cases_eq p hole) [
                    | inl is ↦
                        by _ _ _ _ (here_up p is) (there_up i i_other)
                        (past.first.first i (subst (λ (q : ℕ). IsRightBelow q i) is below) in_heap)
                    | inr p_other ↦
                        by _ _ _ _ (there_up p p_other) (there_up i i_other)
                        (open_at.beside p i below in_heap p_other i_other)
                  ]
            ];
        across = λ p i upper below in_heap.
            let p_is : p ≡ hole = omega arith in
            let i_other : i ≢ hole = omega arith in
            let from_other : from ≢ hole = omega arith in
            by _ _ _ _ (here_up p p_is) (there_up i i_other)
            (open_at.beside from i below in_heap from_other i_other);
      }

  pub FitsAbove-sink : FitsAbove sunk from x
  FitsAbove-sink = record {
    above = λ p upper.
        let first = past.first.below in
        let p_is : p ≡ hole = omega arith in
        by _ x _ x (here_up p p_is) refl (no_later (entry_in_seat entries from) x past.before);
  }

-- ---- An entry takes the open seat

pub IsOrdered-place : (count : ℕ) (entries : List HeapEntry) (hole : ℕ) (x : HeapEntry) → hole < length entries
    → IsOpen count entries hole → FitsAbove entries hole x → FitsBelow count entries hole x
    → IsOrdered count (set entries hole x)
IsOrdered-place count entries hole x fits open_at above below = record {
  ordered = λ p i is_below in_heap.
      elim (cases_eq i hole) [
        | inl is ↦
            let p_other : p ≢ hole = omega arith in
            by _ _ _ _ (at_other entries hole x fits p p_other) (at_hole entries hole x fits i is)
            (above.above p (subst (λ (q : ℕ). IsRightBelow p q) is is_below))
        | inr i_other ↦
            elim (cases_eq p hole) [
              | inl is ↦
                  by _ _ _ _ (at_hole entries hole x fits p is) (at_other entries hole x fits i i_other)
                  (below.below i (subst (λ (q : ℕ). IsRightBelow q i) is is_below) in_heap)
              | inr p_other ↦
                  by _ _ _ _ (at_other entries hole x fits p p_other) (at_other entries hole x fits i i_other)
                  (open_at.beside p i is_below in_heap p_other i_other)
            ]
      ];
}

-- an entry that is before the one above an open seat is before those below it
pub FitsBelow-past : (count : ℕ) (entries : List HeapEntry) (hole from : ℕ) (x : HeapEntry) → IsOpen count entries hole
    → RisesPast entries hole x from → FitsBelow count entries hole x
FitsBelow-past count entries hole from x open_at past = record {
  below = λ i below in_heap.
      IsNoLater-trans x (entry_in_seat entries from) (entry_in_seat entries i)
      (no_later x (entry_in_seat entries from) past.before) (open_at.across from i past.above below in_heap);
}

-- ---- A heap beside one of its seats

-- each of the first seats but one is of another heap, and holds what it holds there
abbrev AgreesBeside : ℕ → List HeapEntry → ℕ → List HeapEntry → ℕ → Type 0
AgreesBeside old_count old count new hole =
    (i : ℕ) → i < count → i ≢ hole → (i < old_count) × (entry_in_seat new i ≡ entry_in_seat old i)

pub IsOpen-from : (old_count : ℕ) (old : List HeapEntry) (count : ℕ) (new : List HeapEntry) (hole : ℕ) → hole < count
    → IsOrdered old_count old → AgreesBeside old_count old count new hole → IsOpen count new hole
IsOpen-from old_count old count new hole in_heap order agrees = record {
  in_heap = in_heap;
  beside = λ p i below inside p_other i_other.
      let upper = agrees p (omega arith) p_other in
      let lower = agrees i inside i_other in
      by _ _ _ _ upper.1 lower.1 (order.ordered p i below lower.0);
  across = λ p i above below inside.
      let p_other : p ≢ hole = omega arith in
      let i_other : i ≢ hole = omega arith in
      let upper = agrees p (omega arith) p_other in
      let lower = agrees i inside i_other in
      let lower_in = lower.0 in
      by _ _ _ _ upper.1 lower.1
      (IsNoLater-trans (entry_in_seat old p) (entry_in_seat old hole) (entry_in_seat old i)
      (order.ordered p hole above (omega arith)) (order.ordered hole i below lower_in));
}

-- the heap ends before that seat
pub IsOrdered-from : (old_count : ℕ) (old : List HeapEntry) (count : ℕ) (new : List HeapEntry) (hole : ℕ) → count ≤ hole
    → IsOrdered old_count old → AgreesBeside old_count old count new hole → IsOrdered count new
IsOrdered-from old_count old count new hole behind order agrees = record {
  ordered = λ p i below inside.
      let p_other : p ≢ hole = omega arith in
      let i_other : i ≢ hole = omega arith in
      let upper = agrees p (omega arith) p_other in
      let lower = agrees i inside i_other in
      by _ _ _ _ upper.1 lower.1 (order.ordered p i below lower.0);
}

-- none is earlier than the one in the first seat
first_no_later : (count : ℕ) (entries : List HeapEntry) → IsOrdered count entries → (fuel seat : ℕ) → seat ≤ fuel
    → seat < count → IsNoLater (entry_in_seat entries 0) (entry_in_seat entries seat)
first_no_later count entries order fuel zero le lt = inr (refl, omega arith)
first_no_later count entries order zero (suc seat) le lt = absurd (omega arith)
first_no_later count entries order (suc fuel) (suc seat) le lt =
    IsNoLater-trans (entry_in_seat entries 0) (entry_in_seat entries (seat / 2)) (entry_in_seat entries (suc seat))
    (first_no_later count entries order fuel (seat / 2) (omega arith) (omega arith))
    (order.ordered (seat / 2) (suc seat) (record { from = omega arith; to = omega arith }) lt)

pub first-no_later : (count : ℕ) (entries : List HeapEntry) (seat : ℕ) → IsOrdered count entries → seat < count
    → IsNoLater (entry_in_seat entries 0) (entry_in_seat entries seat)
first-no_later count entries seat order lt = first_no_later count entries order seat seat (omega arith) lt
