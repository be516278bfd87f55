-- A key leaves its seat, or two change theirs; a heap counts one more, or one less; new seats.
use Rattle.std.proofs.Common.{◌≡◌, ◌≢◌, ℕ, ◌+◌, ◌<◌, length, set, List}
use Rattle.std.proofs.Common.{get_or, inl, inr, refl, sym, ap, subst, ◌∙◌, arith}
use Rattle.std.proofs.lemmas.Bool.{cases_eq, cases_lt}
use Rattle.std.proofs.lemmas.List.{get_or-set_same, get_or-set_other, length-set}
use Rattle.std.proofs.lemmas.List.{same_lists, get_or_default}
use Rattle.share_stride.specs.declared.seating.HeapEntry.{HeapEntry}
use Rattle.share_stride.specs.Seating.{no_entry, entry_in_seat, seat_of, IsSeated, IsLifted, Swaps}
use Rattle.share_stride.specs.Seating.{standing_of, KeepsOthers}
use Rattle.share_stride.proofs.HeapOrderLemmas.{at_hole, at_other}
use Rattle.share_stride.proofs.SeatingLemmas.{standing_at-in, standing_at-out, KeepsOthers-trans, IsLifted-fill}
use Rattle.share_stride.proofs.SeatingLemmas.{KeepsOthers-fill, IsSeated-place, KeepsOthers-place}

-- ---- A key leaves its seat, or two change theirs

pub IsLifted-lift : (entries : List HeapEntry) (seats : List ℕ) (seat key : ℕ) → IsSeated entries seats
    → seat < length entries → (entry_in_seat entries seat).key ≡ key → IsLifted entries seats seat key
IsLifted-lift entries seats seat key seated fits has = record {
  as_many = seated.as_many;
  hole_fits = fits;
  lifted_fits = let key_fits = seated.key_fits seat fits in omega arith;
  key_fits = λ i lt _. seated.key_fits i lt;
  seat_is = λ i lt _. seated.seat_is i lt;
  other_key = λ i lt apart same.
      apart (sym (seated.seat_is i lt) ∙ ap (seat_of seats) (same ∙ sym has) ∙ seated.seat_is seat fits);
  seat_fits = λ k lt _. seated.seat_fits k lt;
  other_seat = λ k lt apart same.
      apart (sym (seated.key_is k lt) ∙ ap (λ i. (entry_in_seat entries i).key) same ∙ has);
  key_is = λ k lt _. seated.key_is k lt;
}

-- a write of what stands there already
pub set_same : {X : Type 0} (xs : List X) (i : ℕ) (x d : X) → i < length xs → get_or xs i d ≡ x → set xs i x ≡ xs
set_same xs i x d fits is =
    same_lists _ _ (length-set xs i x) (λ k e lt.
    elim (cases_eq k i) [
      | inl same ↦
          ap (λ j. get_or (set xs i x) j e) same
          ∙ get_or-set_same xs i x e fits
          ∙ sym is
          ∙ get_or_default xs i d e fits
          ∙ ap (λ j. get_or xs j e) (sym same)
      | inr apart ↦ get_or-set_other xs i k x e apart
    ])

module _ (entries : List HeapEntry) (seats : List ℕ) (a b : ℕ) (seated : IsSeated entries seats)
    (a_fits : a < length entries) (b_fits : b < length entries) where
  abbrev own : HeapEntry
  own = entry_in_seat entries a

  abbrev filled : List HeapEntry
  filled = set entries a (entry_in_seat entries b)

  abbrev reseated : List ℕ
  reseated = set seats (entry_in_seat entries b).key a

  lifted : IsLifted entries seats a own.key
  lifted = IsLifted-lift entries seats a own.key seated a_fits refl

  -- a seat with itself
  Swaps-itself : b ≡ a → Swaps entries seats (set filled b own) (set reseated own.key b) a b
  Swaps-itself same =
      let key_fits = seated.key_fits a a_fits in
      let many = seated.as_many in
      let entries_is : filled ≡ entries =
      ap (λ i. set entries a (entry_in_seat entries i)) same ∙ set_same entries a own no_entry a_fits refl in
      let seats_is : reseated ≡ seats =
      ap (λ i. set seats (entry_in_seat entries i).key a) same
      ∙ set_same seats own.key a 0 (omega arith) (seated.seat_is a a_fits) in
      subst (λ (j : ℕ). Swaps entries seats (set filled j own) (set reseated own.key j) a j) (sym same)
      (subst (λ (es : List HeapEntry). Swaps entries seats (set es a own) (set reseated own.key a) a a) (sym entries_is)
      (subst (λ (ss : List ℕ). Swaps entries seats (set entries a own) (set ss own.key a) a a) (sym seats_is) (record {
        seated = IsSeated-place entries seats a own lifted;
        first = at_hole entries a own a_fits a refl;
        second = at_hole entries a own a_fits a refl;
        others = λ i apart _. at_other entries a own a_fits i apart;
        kept = λ count _. KeepsOthers-place entries seats a own lifted count;
      })))

  Swaps-others : b ≢ a → Swaps entries seats (set filled b own) (set reseated own.key b) a b
  Swaps-others apart =
      let moved = IsLifted-fill entries seats a own.key b lifted b_fits apart in
      let back : a ≢ b = omega arith in
      record {
        seated = IsSeated-place filled reseated b own moved;
        first = at_other filled b own moved.hole_fits a back
            ∙ at_hole entries a (entry_in_seat entries b) a_fits a refl;
        second = at_hole filled b own moved.hole_fits b refl;
        others = λ i not_a not_b.
            at_other filled b own moved.hole_fits i not_b ∙ at_other entries a (entry_in_seat entries b) a_fits i not_a;
        kept = λ count both. KeepsOthers-trans own.key count count count entries filled _ seats reseated _
            (KeepsOthers-fill entries seats a own.key b lifted b_fits apart count both)
            (KeepsOthers-place filled reseated b own moved count);
      }

  pub Swaps-swap : Swaps entries seats (set filled b own) (set reseated own.key b) a b
  Swaps-swap = elim (cases_eq b a) [ inl same ↦ Swaps-itself same | inr apart ↦ Swaps-others apart ]

-- ---- A heap counts one more, or one less

module _ (count : ℕ) (entries : List HeapEntry) (seats : List ℕ) (key : ℕ) (seated : IsSeated entries seats)
    (has : (entry_in_seat entries count).key ≡ key) where
  -- a key but the one at the end of the heap
  counted : (k : ℕ) → k < length entries → k ≢ key
      → standing_of (count + 1) entries seats k ≡ standing_of count entries seats k
  counted k fits apart =
      let elsewhere : seat_of seats k ≢ count =
      λ same. apart (sym (seated.key_is k fits) ∙ ap (λ i. (entry_in_seat entries i).key) same ∙ has) in
      elim (cases_lt (seat_of seats k) count) [
        | inl lt ↦
            standing_at-in (count + 1) entries (seat_of seats k) (omega arith)
            ∙ sym (standing_at-in count entries (seat_of seats k) lt)
        | inr le ↦
            standing_at-out (count + 1) entries (seat_of seats k) (omega arith)
            ∙ sym (standing_at-out count entries (seat_of seats k) le)
      ]

  pub KeepsOthers-more : KeepsOthers key count entries seats (count + 1) entries seats
  KeepsOthers-more = record { as_many = refl; kept = counted }

  pub KeepsOthers-less : KeepsOthers key (count + 1) entries seats count entries seats
  KeepsOthers-less = record { as_many = refl; kept = λ k fits apart. sym (counted k fits apart) }

-- ---- New seats

-- each key so far has the seat of its own number
pub record IsIdle (entries : List HeapEntry) (seats : List ℕ) (count : ℕ) : Type 0 where
  pub entries_long : length entries ≡ count
  pub seats_long : length seats ≡ count
  pub key_is : (i : ℕ) → i < count → (entry_in_seat entries i).key ≡ i
  pub seat_is : (i : ℕ) → i < count → seat_of seats i ≡ i
