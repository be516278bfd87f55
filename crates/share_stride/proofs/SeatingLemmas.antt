-- The effect on the seats, and on the entries of a heap, of an entry that takes an open seat.
use Rattle.std.proofs.Common.{◌≡◌, ◌≢◌, ℕ, ◌<◌, ◌≤◌, ◌↔◌, length, set, List, None, Some, inl, inr}
use Rattle.std.proofs.Common.{refl, sym, ap, ◌∙◌, arith}
use Rattle.std.proofs.lemmas.Bool.{cases_eq, cases_lt, lt-ltb, le-ltb, cond-true, cond-false}
use Rattle.std.proofs.lemmas.List.{get_or-set_same, get_or-set_other, length-set}
use Rattle.share_stride.specs.declared.seating.HeapEntry.{HeapEntry}
use Rattle.share_stride.specs.Seating.{entry_in_seat, seat_of, IsOpen, FitsBelow, RisesPast, SinksPast, IsSeated}
use Rattle.share_stride.specs.Seating.{IsLifted}
use Rattle.share_stride.specs.Seating.{standing_at, standing_of, KeepsOthers, HoleRises, HoleSinks, Sifts, FitsAbove}
use Rattle.share_stride.proofs.HeapOrderLemmas.{at_hole, at_other, IsOpen-rise, FitsBelow-rise, IsOpen-sink}
use Rattle.share_stride.proofs.HeapOrderLemmas.{FitsAbove-sink}
use Rattle.share_stride.proofs.HeapOrderLemmas.{IsOrdered-place, FitsBelow-past}

pub standing_at-in : (count : ℕ) (entries : List HeapEntry) (seat : ℕ) → seat < count
    → standing_at count entries seat ≡ Some (entry_in_seat entries seat)
standing_at-in count entries seat lt = cond-true _ _ _ (lt-ltb seat count lt)

pub standing_at-out : (count : ℕ) (entries : List HeapEntry) (seat : ℕ) → count ≤ seat
    → standing_at count entries seat ≡ None
standing_at-out count entries seat le = cond-false _ _ _ (le-ltb seat count le)

-- the heap has both or neither of two seats with one entry
standing_at-same : (count : ℕ) (old new : List HeapEntry) (a b : ℕ) → entry_in_seat new b ≡ entry_in_seat old a
    → ((a < count) ↔ (b < count)) → standing_at count new b ≡ standing_at count old a
standing_at-same count old new a b same both =
    elim (cases_lt a count) [
      | inl lt ↦ standing_at-in count new b (both.0 lt) ∙ ap Some same ∙ sym (standing_at-in count old a lt)
      | inr le ↦
          let behind : count ≤ b =
          elim (cases_lt b count) [ inl lt ↦ (let inside = both.1 lt in omega arith) | inr out ↦ out ] in
          standing_at-out count new b behind ∙ sym (standing_at-out count old a le)
    ]

standing_at-agrees : (count : ℕ) (old new : List HeapEntry) (seat : ℕ) → entry_in_seat new seat ≡ entry_in_seat old seat
    → standing_at count new seat ≡ standing_at count old seat
standing_at-agrees count old new seat same = standing_at-same count old new seat seat same (λ lt. lt, λ lt. lt)

pub KeepsOthers-trans : (key a b c : ℕ) (es fs gs : List HeapEntry) (ss ts us : List ℕ)
    → KeepsOthers key a es ss b fs ts
    → KeepsOthers key b fs ts c gs us → KeepsOthers key a es ss c gs us
KeepsOthers-trans key a b c es fs gs ss ts us first second = record {
  as_many = second.as_many ∙ first.as_many;
  kept = λ k in_range apart.
      let many = first.as_many in
      second.kept k (omega arith) apart ∙ first.kept k in_range apart;
}

-- ---- An entry moves to the open seat

module _ (entries : List HeapEntry) (seats : List ℕ) (hole key from : ℕ) (lifted : IsLifted entries seats hole key)
    (in_range : from < length entries) (apart : from ≢ hole) where
  abbrev filled : List HeapEntry
  filled = set entries hole (entry_in_seat entries from)

  abbrev reseated : List ℕ
  reseated = set seats (entry_in_seat entries from).key hole

  long : length filled ≡ length entries
  long = length-set entries hole (entry_in_seat entries from)

  here : (seat : ℕ) → seat ≡ hole → entry_in_seat filled seat ≡ entry_in_seat entries from
  here = at_hole entries hole (entry_in_seat entries from) lifted.hole_fits

  there : (seat : ℕ) → seat ≢ hole → entry_in_seat filled seat ≡ entry_in_seat entries seat
  there = at_other entries hole (entry_in_seat entries from) lifted.hole_fits

  seat_here : (k : ℕ) → k ≡ (entry_in_seat entries from).key → seat_of reseated k ≡ hole
  seat_here k is =
      let fits = lifted.key_fits from in_range apart in
      let many = lifted.as_many in
      ap (seat_of reseated) is ∙ get_or-set_same seats (entry_in_seat entries from).key hole 0 (omega arith)

  seat_there : (k : ℕ) → k ≢ (entry_in_seat entries from).key → seat_of reseated k ≡ seat_of seats k
  seat_there k other = get_or-set_other seats (entry_in_seat entries from).key k hole 0 other

  -- a key but the one that moved sits elsewhere
  seat_apart : (k : ℕ) → k < length entries → k ≢ key → k ≢ (entry_in_seat entries from).key → seat_of seats k ≢ from
  seat_apart k fits other moved same =
      moved (sym (lifted.key_is k fits other) ∙ ap (λ i. (entry_in_seat entries i).key) same)

  -- a seat but the open ones has another key than the one that moved
  key_apart : (i : ℕ) → i < length entries → i ≢ hole → i ≢ from
      → (entry_in_seat entries i).key ≢ (entry_in_seat entries from).key
  key_apart i fits other moved same =
      moved (sym (lifted.seat_is i fits other) ∙ ap (seat_of seats) same ∙ lifted.seat_is from in_range apart)

  pub IsLifted-fill : IsLifted filled reseated from key
  IsLifted-fill = record {
    as_many = length-set seats (entry_in_seat entries from).key hole ∙ lifted.as_many ∙ sym long;
    hole_fits = rw long in_range;
    lifted_fits = rw long lifted.lifted_fits;
    key_fits = λ i fits other. rw long (elim (cases_eq i hole) [
      | inl is ↦ rw (here i is) (lifted.key_fits from in_range apart)
      | inr i_other ↦ rw (there i i_other) (lifted.key_fits i (omega (arith, long)) i_other)
    ]);
    seat_is = λ i fits other. elim (cases_eq i hole) [
      | inl is ↦ seat_here (entry_in_seat filled i).key (ap (λ (e : HeapEntry). e.key) (here i is)) ∙ sym is
      | inr i_other ↦
          let same = ap (λ (e : HeapEntry). e.key) (there i i_other) in
          ap (seat_of reseated) same
          ∙ seat_there (entry_in_seat entries i).key (key_apart i (omega (arith, long)) i_other other)
          ∙ lifted.seat_is i (omega (arith, long)) i_other
    ];
    other_key = λ i fits other same. elim (cases_eq i hole) [
      | inl is ↦ lifted.other_key from in_range apart (sym (ap (λ (e : HeapEntry). e.key) (here i is)) ∙ same)
      | inr i_other ↦
          lifted.other_key i (omega (arith, long)) i_other
          (sym (ap (λ (e : HeapEntry). e.key) (there i i_other)) ∙ same)
    ];
    seat_fits = λ k fits other. rw long (elim (cases_eq k (entry_in_seat entries from).key) [
      | inl is ↦ rw (seat_here k is) lifted.hole_fits
      | inr k_other ↦ rw (seat_there k k_other) (lifted.seat_fits k (omega (arith, long)) other)
    ]);
    other_seat = λ k fits other same. elim (cases_eq k (entry_in_seat entries from).key) [
      | inl is ↦ apart (sym same ∙ seat_here k is)
      | inr k_other ↦ seat_apart k (omega (arith, long)) other k_other (sym (seat_there k k_other) ∙ same)
    ];
    key_is = λ k fits other. elim (cases_eq k (entry_in_seat entries from).key) [
      | inl is ↦ ap (λ (e : HeapEntry). e.key) (here (seat_of reseated k) (seat_here k is)) ∙ sym is
      | inr k_other ↦
          let elsewhere = lifted.other_seat k (omega (arith, long)) other in
          let same = seat_there k k_other in
          ap (λ i. (entry_in_seat filled i).key) same
          ∙ ap (λ (e : HeapEntry). e.key) (there (seat_of seats k) elsewhere)
          ∙ lifted.key_is k (omega (arith, long)) other
    ];
  }

  pub KeepsOthers-fill : (count : ℕ) → ((hole < count) ↔ (from < count))
      → KeepsOthers key count entries seats count filled reseated
  KeepsOthers-fill count both = record {
    as_many = long;
    kept = λ k fits other. elim (cases_eq k (entry_in_seat entries from).key) [
      | inl is ↦
          let seat_was : seat_of seats k ≡ from =
          ap (seat_of seats) is ∙ lifted.seat_is from in_range apart in
          ap (standing_at count filled) (seat_here k is)
          ∙ standing_at-same count entries filled from hole (here hole refl) (both.1, both.0)
          ∙ ap (standing_at count entries) (sym seat_was)
      | inr k_other ↦
          ap (standing_at count filled) (seat_there k k_other)
          ∙ standing_at-agrees count entries filled (seat_of seats k)
          (there (seat_of seats k) (lifted.other_seat k fits other))
    ];
  }

-- ---- The entry that was lifted takes the open seat

module _ (entries : List HeapEntry) (seats : List ℕ) (hole : ℕ) (x : HeapEntry)
    (lifted : IsLifted entries seats hole x.key)
  where
    abbrev placed : List HeapEntry
    placed = set entries hole x

    abbrev seated : List ℕ
    seated = set seats x.key hole

    placed_long : length placed ≡ length entries
    placed_long = length-set entries hole x

    placed_here : (seat : ℕ) → seat ≡ hole → entry_in_seat placed seat ≡ x
    placed_here = at_hole entries hole x lifted.hole_fits

    placed_there : (seat : ℕ) → seat ≢ hole → entry_in_seat placed seat ≡ entry_in_seat entries seat
    placed_there = at_other entries hole x lifted.hole_fits

    seated_here : (k : ℕ) → k ≡ x.key → seat_of seated k ≡ hole
    seated_here k is =
        let fits = lifted.lifted_fits in
        let many = lifted.as_many in
        ap (seat_of seated) is ∙ get_or-set_same seats x.key hole 0 (omega arith)

    seated_there : (k : ℕ) → k ≢ x.key → seat_of seated k ≡ seat_of seats k
    seated_there k other = get_or-set_other seats x.key k hole 0 other

    pub IsSeated-place : IsSeated placed seated
    IsSeated-place = record {
      as_many = length-set seats x.key hole ∙ lifted.as_many ∙ sym placed_long;
      key_fits = λ i fits. rw placed_long (elim (cases_eq i hole) [
        | inl is ↦ rw (placed_here i is) lifted.lifted_fits
        | inr other ↦ rw (placed_there i other) (lifted.key_fits i (omega (arith, placed_long)) other)
      ]);
      seat_is = λ i fits. elim (cases_eq i hole) [
        | inl is ↦ seated_here (entry_in_seat placed i).key (ap (λ (e : HeapEntry). e.key) (placed_here i is)) ∙ sym is
        | inr other ↦
            ap (seat_of seated) (ap (λ (e : HeapEntry). e.key) (placed_there i other))
            ∙ seated_there (entry_in_seat entries i).key (lifted.other_key i (omega (arith, placed_long)) other)
            ∙ lifted.seat_is i (omega (arith, placed_long)) other
      ];
      seat_fits = λ k fits. rw placed_long (elim (cases_eq k x.key) [
        | inl is ↦ rw (seated_here k is) lifted.hole_fits
        | inr other ↦ rw (seated_there k other) (lifted.seat_fits k (omega (arith, placed_long)) other)
      ]);
      key_is = λ k fits. elim (cases_eq k x.key) [
        | inl is ↦ ap (λ (e : HeapEntry). e.key) (placed_here (seat_of seated k) (seated_here k is)) ∙ sym is
        | inr other ↦
            let elsewhere = lifted.other_seat k (omega (arith, placed_long)) other in
            ap (λ i. (entry_in_seat placed i).key) (seated_there k other)
            ∙ ap (λ (e : HeapEntry). e.key) (placed_there (seat_of seats k) elsewhere)
            ∙ lifted.key_is k (omega (arith, placed_long)) other
      ];
    }

    pub standing_of-place : (count : ℕ) → hole < count → standing_of count placed seated x.key ≡ Some x
    standing_of-place count in_heap =
        ap (standing_at count placed) (seated_here x.key refl)
        ∙ standing_at-in count placed hole in_heap
        ∙ ap Some (placed_here hole refl)

    pub KeepsOthers-place : (count : ℕ) → KeepsOthers x.key count entries seats count placed seated
    KeepsOthers-place count = record {
      as_many = placed_long;
      kept = λ k fits other.
          ap (standing_at count placed) (seated_there k other)
          ∙ standing_at-agrees count entries placed (seat_of seats k)
          (placed_there (seat_of seats k) (lifted.other_seat k fits other));
    }

-- ---- The steps of the open seat

pub HoleRises-step : (es : List HeapEntry) (ss : List ℕ) (start : ℕ) (entries : List HeapEntry) (seats : List ℕ)
    (hole from : ℕ)
    (x : HeapEntry) → HoleRises es ss start entries seats hole x → RisesPast entries hole x from
    → HoleRises es ss start (set entries hole (entry_in_seat entries from))
    (set seats (entry_in_seat entries from).key hole) from x
HoleRises-step es ss start entries seats hole from x rises past =
    let above = past.above in
    let fits = rises.lifted.hole_fits in
    let in_range : from < length entries = omega arith in
    let apart : from ≢ hole = omega arith in
    let higher = rises.higher in
    record {
      lifted = IsLifted-fill entries seats hole x.key from rises.lifted in_range apart;
      kept = λ count in_heap. KeepsOthers-trans x.key count count count es entries _ ss seats _
          (rises.kept count in_heap)
          (KeepsOthers-fill entries seats hole x.key from rises.lifted in_range apart count
          (λ _. omega arith, λ _. omega arith));
      higher = omega arith;
      is_open = λ count was below_was.
          let now = rises.is_open count was below_was in (
            IsOpen-rise count entries hole from x fits now.0 past,
            FitsBelow-rise count entries hole from x fits now.0 past now.1,
          );
    }

pub HoleSinks-step : (count : ℕ) (es : List HeapEntry) (ss : List ℕ) (entries : List HeapEntry) (seats : List ℕ)
    (hole from : ℕ)
    (x : HeapEntry) → count ≤ length es → HoleSinks count es ss entries seats hole x
    → SinksPast count entries hole x from
    → HoleSinks count es ss (set entries hole (entry_in_seat entries from))
    (set seats (entry_in_seat entries from).key hole) from x
HoleSinks-step count es ss entries seats hole from x few sinks past =
    let below = past.first.below in
    let in_heap = past.first.in_heap in
    let fits = sinks.lifted.hole_fits in
    let many = sinks.kept.as_many in
    let hole_in = sinks.is_open.in_heap in
    let in_range : from < length entries = omega arith in
    let apart : from ≢ hole = omega arith in
    record {
      lifted = IsLifted-fill entries seats hole x.key from sinks.lifted in_range apart;
      kept = KeepsOthers-trans x.key count count count es entries _ ss seats _ sinks.kept
          (KeepsOthers-fill entries seats hole x.key from sinks.lifted in_range apart count
          (λ _. in_heap, λ _. hole_in));
      is_open = IsOpen-sink count entries hole from x fits sinks.is_open past;
      above = FitsAbove-sink count entries hole from x fits sinks.is_open past;
    }

pub Sifts-place : (count : ℕ) (es : List HeapEntry) (ss : List ℕ) (entries : List HeapEntry) (seats : List ℕ) (hole : ℕ)
    (x : HeapEntry) → HoleSinks count es ss entries seats hole x → FitsBelow count entries hole x
    → Sifts count es ss (set entries hole x) (set seats x.key hole) x
Sifts-place count es ss entries seats hole x moved below = record {
  seated = IsSeated-place entries seats hole x moved.lifted;
  ordered = IsOrdered-place count entries hole x moved.lifted.hole_fits moved.is_open moved.above below;
  stands = standing_of-place entries seats hole x moved.lifted count moved.is_open.in_heap;
  kept = KeepsOthers-trans x.key count count count es entries _ ss seats _ moved.kept
      (KeepsOthers-place entries seats hole x moved.lifted count);
}

-- a rise in a heap of this many
pub HoleSinks-risen : (count : ℕ) (es : List HeapEntry) (ss : List ℕ) (start from : ℕ) (entries : List HeapEntry)
    (seats : List ℕ)
    (hole : ℕ) (x : HeapEntry) → IsOpen count es start → RisesPast es start x from
    → HoleRises es ss start entries seats hole x → FitsAbove entries hole x
    → HoleSinks count es ss entries seats hole x × FitsBelow count entries hole x
HoleSinks-risen count es ss start from entries seats hole x was past rises above =
    let now = rises.is_open count was (FitsBelow-past count es start from x was past) in (
      record { lifted = rises.lifted; kept = rises.kept count was.in_heap; is_open = now.0; above = above },
      now.1,
    )
