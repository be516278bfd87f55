-- The effects of entering, shifting and leaving on a heap.
use Rattle.std.proofs.Common.{◌≡◌, ◌≢◌, ℕ, ◌+◌, ◌-◌, ◌<◌, ◌≤◌, length, set, List, Option, None, Some}
use Rattle.std.proofs.Common.{IsSome, is_some, false}
use Rattle.std.proofs.Common.{get_or, replicate, inl, inr, refl, sym, ap, subst, ◌∙◌, arith}
use Rattle.std.proofs.lemmas.Bool.{cases_eq, cases_lt}
use Rattle.std.proofs.lemmas.List.{get_or-set_same, get_or-set_other, length-set, length-map, get_or-map, get_or_past}
use Rattle.std.proofs.lemmas.List.{length-replicate, get_or-replicate}
use Rattle.std.proofs.lemmas.List.{same_lists, get_or_default}
use Rattle.share_stride.specs.declared.seating.HeapEntry.{HeapEntry}
use Rattle.share_stride.specs.Seating.{entry_in_seat, seat_of, IsNoLater, IsOpen, IsOrdered, IsSeated, IsLifted, Swaps}
use Rattle.share_stride.specs.Seating.{standing_at, standing_of, KeepsOthers, Sifts, Resifts}
use Rattle.share_stride.specs.Heap.{Standings, standing_under, standings_of, IsHeap, IsFirstStanding}
use Rattle.share_stride.proofs.HeapOrderLemmas.{IsOpen-from, IsOrdered-from, first-no_later}
use Rattle.share_stride.proofs.SeatingLemmas.{standing_at-in, standing_at-out, KeepsOthers-trans}
use Rattle.share_stride.proofs.SeatLemmas.{IsLifted-lift, KeepsOthers-less, KeepsOthers-more}

-- ---- The entry under a key

under_is : (count : ℕ) (entries : List HeapEntry) (seats : List ℕ) (key : ℕ) → key < length seats
    → standing_under (standings_of count entries seats) key ≡ standing_of count entries seats key
under_is count entries seats key lt = get_or-map (standing_at count entries) seats key 0 None lt

module _ (count : ℕ) (entries : List HeapEntry) (seats : List ℕ) (key : ℕ) (seated : IsSeated entries seats) where
  under_in : key < length entries → seat_of seats key < count
      → standing_under (standings_of count entries seats) key ≡ Some (entry_in_seat entries (seat_of seats key))
  under_in fits lt =
      let many = seated.as_many in
      under_is count entries seats key (omega arith) ∙ standing_at-in count entries (seat_of seats key) lt

  under_out : key < length entries → count ≤ seat_of seats key
      → standing_under (standings_of count entries seats) key ≡ None
  under_out fits le =
      let many = seated.as_many in
      under_is count entries seats key (omega arith) ∙ standing_at-out count entries (seat_of seats key) le

  pub under_past : length entries ≤ key → standing_under (standings_of count entries seats) key ≡ None
  under_past past =
      let many = seated.as_many in
      let long = length-map seats (standing_at count entries) in
      get_or_past (standings_of count entries seats) key None (omega arith)

  -- an entry has a seat in the heap
  pub stands_in : (entry : HeapEntry) → standing_under (standings_of count entries seats) key ≡ Some entry
      → (key < length entries) × (seat_of seats key < count) × (entry ≡ entry_in_seat entries (seat_of seats key))
  stands_in entry found =
      elim (cases_lt key (length entries)) [
        | inl fits ↦
            elim (cases_lt (seat_of seats key) count) [
              | inl lt ↦ let there = under_in fits lt in (fits, lt, cc)
              | inr le ↦ let none = under_out fits le in absurd (cc)
            ]
        | inr past ↦ let none = under_past past in absurd (cc)
      ]

  pub stands_some : IsSome (standing_under (standings_of count entries seats) key)
      → (key < length entries) × (seat_of seats key < count)
  stands_some some =
      elim (standing_under (standings_of count entries seats) key)
      as (λ o. standing_under (standings_of count entries seats) key ≡ o → IsSome o
      → (key < length entries) × (seat_of seats key < count)) [
        | None ↦ λ _ nothing. absurd (cc)
        | Some entry ↦ λ found _. let it = stands_in entry found in (it.0, it.1)
      ] refl some

  -- nothing stands under a key whose seat is after the heap
  pub stands_out : key < length entries → standing_under (standings_of count entries seats) key ≡ None
      → count ≤ seat_of seats key
  stands_out fits none =
      elim (cases_lt (seat_of seats key) count) [
        | inl lt ↦ let there = under_in fits lt in absurd (cc)
        | inr le ↦ le
      ]

-- the seat of a key of the heap, as the code reads it
pub seat_read : (count : ℕ) (entries : List HeapEntry) (seats : List ℕ) (now : Standings) (key seat : ℕ)
    → IsSeated entries seats → standings_of count entries seats ≡ now → key < length now → seat ≡ get_or seats key seat
    → (key < length entries) × (seat ≡ seat_of seats key)
seat_read count entries seats now key seat seated view lt read =
    let many = seated.as_many in
    let long = length-map seats (standing_at count entries) in
    let same = ap length view in (omega arith, read ∙ get_or_default seats key seat 0 (omega arith))

-- there are as many keys as seats, so what stands has one
pub stands_within : (now : Standings) (key : ℕ) → IsSome (standing_under now key) → key < length now
stands_within now key some =
    elim (cases_lt key (length now)) [
      | inl lt ↦ lt
      | inr le ↦
          let nothing : IsSome {T = HeapEntry} None =
          subst (λ (o : Option HeapEntry). IsSome o) (get_or_past now key None le) some in
          absurd (cc)
    ]

pub stands_none : (now : Standings) (key : ℕ) → is_some (standing_under now key) ≡ false
    → standing_under now key ≡ None
stands_none now key none =
    elim (standing_under now key) as (λ o. is_some o ≡ false → o ≡ None) [
      | None ↦ λ _. refl
      | Some entry ↦ λ some. absurd (cc)
    ] none

-- one key has another entry, or none, and the others keep theirs
standings_of-set : (old_count : ℕ) (old : List HeapEntry) (old_seats : List ℕ) (count : ℕ) (entries : List HeapEntry)
    (seats : List ℕ) (key : ℕ) (entry : Option HeapEntry) → IsSeated old old_seats → IsSeated entries seats
    → KeepsOthers key old_count old old_seats count entries seats → key < length old
    → standing_of count entries seats key ≡ entry
    → standings_of count entries seats ≡ set (standings_of old_count old old_seats) key entry
standings_of-set old_count old old_seats count entries seats key entry was is keeps fits stands =
    let was_many = was.as_many in
    let is_many = is.as_many in
    let as_many = keeps.as_many in
    let old_long = length-map old_seats (standing_at old_count old) in
    let long = length-map seats (standing_at count entries) in
    let set_long = length-set (standings_of old_count old old_seats) key entry in
    same_lists _ _ (omega arith) (λ k d lt.
    get_or-map (standing_at count entries) seats k 0 d (omega arith)
    ∙ elim (cases_eq k key) [
      | inl same ↦
          ap (standing_of count entries seats) same
          ∙ stands
          ∙ sym (get_or-set_same (standings_of old_count old old_seats) key entry d (omega arith))
          ∙ ap (λ i. get_or (set (standings_of old_count old old_seats) key entry) i d) (sym same)
      | inr apart ↦
          keeps.kept k (omega arith) apart
          ∙ sym (get_or-map (standing_at old_count old) old_seats k 0 d (omega arith))
          ∙ sym (get_or-set_other (standings_of old_count old old_seats) key k entry d apart)
    ])

-- ---- An entry enters

module _ (count : ℕ) (es : List HeapEntry) (ss : List ℕ) (x : HeapEntry) (heap : IsHeap count es ss)
    (fits : x.key < length es)
    (out : standing_under (standings_of count es ss) x.key ≡ None) (fs : List HeapEntry) (ts : List ℕ)
    (swaps : Swaps es ss fs ts (seat_of ss x.key) count) where
  entering_behind : count ≤ seat_of ss x.key
  entering_behind = stands_out count es ss x.key heap.seated fits out

  entering_keeps : KeepsOthers x.key count es ss count fs ts
  entering_keeps =
      let behind = entering_behind in
      subst (λ (k : ℕ). KeepsOthers k count es ss count fs ts) (heap.seated.key_is x.key fits)
      (swaps.kept count (λ lt. omega arith, λ lt. omega arith))

  pub entering_few : count + 1 ≤ length fs
  entering_few =
      let behind = entering_behind in
      let many = entering_keeps.as_many in
      let seat_fits = heap.seated.seat_fits x.key fits in
      omega arith

  entering_has : (entry_in_seat fs count).key ≡ x.key
  entering_has = ap (λ (e : HeapEntry). e.key) swaps.second ∙ heap.seated.key_is x.key fits

  pub entering_lifted : IsLifted fs ts count x.key
  entering_lifted =
      let few = entering_few in
      IsLifted-lift fs ts count x.key swaps.seated (omega arith) entering_has

  pub entering_open : IsOpen (count + 1) fs count
  entering_open =
      let behind = entering_behind in
      IsOpen-from count es (count + 1) fs count (omega arith) heap.ordered (λ i lt apart.
      (omega arith, swaps.others i (omega arith) apart))

  module _ (gs : List HeapEntry) (us : List ℕ) (sifts : Sifts (count + 1) fs ts gs us x) where
    pub IsHeap-entered : IsHeap (count + 1) gs us
    IsHeap-entered =
        let few = entering_few in
        let many = sifts.kept.as_many in
        record { seated = sifts.seated; few = omega arith; ordered = sifts.ordered }

    pub standings-entered : standings_of (count + 1) gs us ≡ set (standings_of count es ss) x.key (Some x)
    standings-entered =
        standings_of-set count es ss (count + 1) gs us x.key (Some x) heap.seated sifts.seated
        (KeepsOthers-trans x.key count count (count + 1) es fs gs ss ts us entering_keeps
        (KeepsOthers-trans x.key count (count + 1) (count + 1) fs fs gs ts ts us
        (KeepsOthers-more count fs ts x.key swaps.seated entering_has) sifts.kept))
        fits sifts.stands

-- ---- An entry takes the place of another

module _ (count : ℕ) (es : List HeapEntry) (ss : List ℕ) (x : HeapEntry) (heap : IsHeap count es ss)
    (there : IsSome (standing_under (standings_of count es ss) x.key)) where
  pub shifting_lifted : IsLifted es ss (seat_of ss x.key) x.key
  shifting_lifted =
      let stands = stands_some count es ss x.key heap.seated there in
      IsLifted-lift es ss (seat_of ss x.key) x.key heap.seated (heap.seated.seat_fits x.key stands.0)
      (heap.seated.key_is x.key stands.0)

  pub shifting_open : IsOpen count es (seat_of ss x.key)
  shifting_open =
      let stands = stands_some count es ss x.key heap.seated there in
      IsOpen-from count es count es (seat_of ss x.key) stands.1 heap.ordered (λ i lt _. (lt, refl))

  module _ (gs : List HeapEntry) (us : List ℕ) (sifts : Sifts count es ss gs us x) where
    pub IsHeap-shifted : IsHeap count gs us
    IsHeap-shifted =
        let few = heap.few in
        let many = sifts.kept.as_many in
        record { seated = sifts.seated; few = omega arith; ordered = sifts.ordered }

    pub standings-shifted : standings_of count gs us ≡ set (standings_of count es ss) x.key (Some x)
    standings-shifted =
        standings_of-set count es ss count gs us x.key (Some x) heap.seated sifts.seated sifts.kept
        ((stands_some count es ss x.key heap.seated there).0) sifts.stands

-- ---- An entry leaves

module _ (all count : ℕ) (es : List HeapEntry) (ss : List ℕ) (key : ℕ) (counts : count ≡ all - 1)
    (heap : IsHeap all es ss)
    (there : IsSome (standing_under (standings_of all es ss) key)) (fs : List HeapEntry) (ts : List ℕ)
    (swaps : Swaps es ss fs ts (seat_of ss key) count) where
  leaving_in : (key < length es) × (seat_of ss key < all)
  leaving_in = stands_some all es ss key heap.seated there

  one_more : all ≡ count + 1
  one_more = let inside = leaving_in in omega (arith, inside.1)

  leaving_keeps : KeepsOthers key all es ss all fs ts
  leaving_keeps =
      let inside = leaving_in in
      let more = one_more in
      subst (λ (k : ℕ). KeepsOthers k all es ss all fs ts) (heap.seated.key_is key inside.0)
      (swaps.kept all (λ _. omega arith, λ _. inside.1))

  pub leaving_few : count ≤ length fs
  leaving_few = let few = heap.few in let many = leaving_keeps.as_many in let more = one_more in omega arith

  leaving_has : (entry_in_seat fs count).key ≡ key
  leaving_has = ap (λ (e : HeapEntry). e.key) swaps.second ∙ heap.seated.key_is key leaving_in.0

  leaving_agrees : (i : ℕ) → i < count → i ≢ seat_of ss key
      → (i < all) × (entry_in_seat fs i ≡ entry_in_seat es i)
  leaving_agrees i lt apart = let more = one_more in (omega arith, swaps.others i apart (omega arith))

  pub leaving_open : seat_of ss key < count → IsOpen count fs (seat_of ss key)
  leaving_open lt = IsOpen-from all es count fs (seat_of ss key) lt heap.ordered leaving_agrees

  pub leaving_ordered : count ≤ seat_of ss key → IsOrdered count fs
  leaving_ordered le = IsOrdered-from all es count fs (seat_of ss key) le heap.ordered leaving_agrees

  module _ (gs : List HeapEntry) (us : List ℕ) (resifts : Resifts count fs ts gs us) where
    pub IsHeap-left : IsHeap count gs us
    IsHeap-left =
        let few = leaving_few in
        let many = resifts.kept.as_many in
        record { seated = resifts.seated; few = omega arith; ordered = resifts.ordered }

    -- its key has the seat right after the heap
    left_out : standing_of count gs us key ≡ None
    left_out =
        let few = heap.few in
        let many = leaving_keeps.as_many in
        let inside = leaving_in in
        let more = one_more in
        resifts.kept.kept key (omega arith)
        ∙ ap (standing_of count fs ts) (sym leaving_has)
        ∙ ap (standing_at count fs) (swaps.seated.seat_is count (omega arith))
        ∙ standing_at-out count fs count (omega arith)

    pub standings-left : standings_of count gs us ≡ set (standings_of all es ss) key None
    standings-left =
        standings_of-set all es ss count gs us key None heap.seated resifts.seated
        (KeepsOthers-trans key all all count es fs gs ss ts us leaving_keeps
        (KeepsOthers-trans key all count count fs fs gs ts ts us
        (subst (λ n. KeepsOthers key n fs ts count fs ts) (sym one_more)
        (KeepsOthers-less count fs ts key swaps.seated leaving_has))
        (record { as_many = resifts.kept.as_many; kept = λ k lt _. resifts.kept.kept k lt })))
        (leaving_in.0) left_out

-- ---- The first entry

pub IsFirstStanding-none : (entries : List HeapEntry) (seats : List ℕ) → IsSeated entries seats
    → IsFirstStanding (standings_of 0 entries seats) None
IsFirstStanding-none entries seats seated = λ key.
    elim (cases_lt key (length entries)) [
      | inl fits ↦ under_out 0 entries seats key seated fits (omega arith)
      | inr past ↦ under_past 0 entries seats key seated past
    ]

pub IsFirstStanding-some : (count : ℕ) (entries : List HeapEntry) (seats : List ℕ) → IsHeap count entries seats → 0
    < count
    → IsFirstStanding (standings_of count entries seats) (Some (entry_in_seat entries 0))
IsFirstStanding-some count entries seats heap some =
    let few = heap.few in
    let fits = heap.seated.key_fits 0 (omega arith) in
    let seat = heap.seated.seat_is 0 (omega arith) in
    record {
      stands = under_in count entries seats (entry_in_seat entries 0).key heap.seated fits (omega arith)
          ∙ ap (λ i. Some (entry_in_seat entries i)) seat;
      first = λ key other found.
          let it = stands_in count entries seats key heap.seated other found in
          subst (λ (e : HeapEntry). IsNoLater (entry_in_seat entries 0) e) (sym it.2)
          (first-no_later count entries (seat_of seats key) heap.ordered it.1);
    }

-- nothing stands in an empty heap
pub standings_of-none : (entries : List HeapEntry) (seats : List ℕ)
    → standings_of 0 entries seats ≡ replicate (length seats) None
standings_of-none entries seats =
    let long = length-map seats (standing_at 0 entries) in
    let all_long = length-replicate {A = Option HeapEntry} (length seats) None in
    same_lists _ _ (omega arith) (λ k d lt.
    get_or-map (standing_at 0 entries) seats k 0 d (omega arith)
    ∙ standing_at-out 0 entries (get_or seats k 0) (omega arith)
    ∙ sym (get_or-replicate (length seats) k None d (omega arith)))
