-- The findings of a search among the pairs of an index, and what an edit there does to their map.
use Rattle.std.proofs.Common.{◌≡◌, ◌≢◌, ℕ, zero, suc, ◌+◌, ◌-◌, ◌<◌, ◌≤◌, [], ◌∷◌, length, get_or, cond, None, Some}
use Rattle.std.proofs.Common.{Result}
use Rattle.std.proofs.Common.{Ok, Err, IfOk, IfErr, refl, sym, ap, subst, ◌∙◌, arith}
use Rattle.std.specs.List.{insert, remove}
use Rattle.std.specs.List.Sorted.{IsSearchInRange, IsBinarySearchResult, IsNonDecreasingBy}
use Rattle.std.specs.Ordering.{nat_cmp, ordering_index, eq_by_cmp}
use Rattle.std.specs.Cmp.{nat_cmp_total}
use Rattle.std.specs.FinMap as map
use Rattle.std.specs.FinMap.{find, len, get, get-from_entries, get-insert, get-remove, same_map}
use Rattle.std.specs.FinMap.{nat_cmp-IsAntisymmetric, len-empty}
use Rattle.std.proofs.lemmas.Cmp.{ranked}
use Rattle.std.proofs.lemmas.List.Sorted.{IsNonDecreasingBy-from_default}
use Rattle.std.proofs.lemmas.List.Edits.{length-insert, get_or-insert_below, get_or-insert_at, get_or-insert_above}
use Rattle.std.proofs.lemmas.Bool.Decides.{nat_tests}
use Rattle.share_model.proofs.lemmas.stride.MapLemmas.{by_key, tied_other, len-insert_new}
use Rattle.share_stride.specs.Index.{Pairs, key_map, flow_at, IsRising, IsAt, IsGapFor}

-- no pair before place i has the flow
abbrev pub LacksBefore : Pairs → ℕ → ℕ → Type 0
LacksBefore l f i = (j : ℕ) → j < i → flow_at l j ≢ f

-- no pair after place i has the flow
abbrev pub LacksAfter : Pairs → ℕ → ℕ → Type 0
LacksAfter l f i = (j : ℕ) → i < j → j < length l → flow_at l j ≢ f

-- ---- The results of searches

LacksBefore-rest : (x : ℕ × ℕ) (l : Pairs) (f i : ℕ) → LacksBefore (x ∷ l) f (suc i) → LacksBefore l f i
LacksBefore-rest x l f i lacks j lt = lacks (suc j) (omega arith)

IsAt-rest : (x : ℕ × ℕ) (l : Pairs) (f i : ℕ) → IsAt (x ∷ l) f (suc i) → IsAt l f i
IsAt-rest x l f i at = record { in_range = omega (arith, at.in_range); has_flow = at.has_flow }

find_absent : (l : Pairs) (f : ℕ) → LacksBefore l f (length l) → find nat_cmp f l ≡ None
find_absent [] f lacks = refl
find_absent (x ∷ l) f lacks =
    by_key (λ b. cond b (Some x.1) (find nat_cmp f l) ≡ None) f x.0
    (λ same. absurd (lacks 0 (omega arith) (sym same)))
    (λ _. find_absent l f (LacksBefore-rest x l f (length l) lacks))

find_present : (l : Pairs) (f i : ℕ) → IsAt l f i → LacksBefore l f i
    → find nat_cmp f l ≡ Some (get_or l i (0, 0)).1
find_present [] f i at lacks = absurd (omega (arith, at.in_range))
find_present (x ∷ l) f zero at lacks =
    by_key (λ b. cond b (Some x.1) (find nat_cmp f l) ≡ Some x.1) f x.0 (λ _. refl)
    (λ apart. absurd (apart (sym at.has_flow)))
find_present (x ∷ l) f (suc i) at lacks =
    by_key (λ b. cond b (Some x.1) (find nat_cmp f l) ≡ Some (get_or l i (0, 0)).1) f x.0
    (λ same. absurd (lacks 0 (omega arith) (sym same)))
    (λ _. find_present l f i (IsAt-rest x l f i at) (LacksBefore-rest x l f i lacks))

find-insert : (l : Pairs) (f v i : ℕ) → LacksBefore l f i → (q : ℕ)
    → find nat_cmp q (insert l i (f, v)) ≡ cond (eq_by_cmp nat_cmp q f) (Some v) (find nat_cmp q l)
find-insert l f v zero lacks q = refl
find-insert [] f v (suc i) lacks q = refl
find-insert (x ∷ l) f v (suc i) lacks q =
    ap (cond (eq_by_cmp nat_cmp q x.0) (Some x.1)) (find-insert l f v i (LacksBefore-rest x l f i lacks) q)
    ∙ by_key
    (λ b. cond b (Some x.1) (cond (eq_by_cmp nat_cmp q f) (Some v) (find nat_cmp q l))
    ≡ cond (eq_by_cmp nat_cmp q f) (Some v) (cond b (Some x.1) (find nat_cmp q l)))
    q x.0
    (λ same. sym (ap (λ b. cond b (Some v) (Some x.1))
    (tied_other q f (λ e. lacks 0 (omega arith) (sym same ∙ e)))))
    (λ _. refl)

find-remove : (l : Pairs) (f i : ℕ) → IsAt l f i → LacksBefore l f i → LacksAfter l f i → (q : ℕ)
    → find nat_cmp q (remove l i) ≡ cond (eq_by_cmp nat_cmp q f) None (find nat_cmp q l)
find-remove [] f i at before after q = absurd (omega (arith, at.in_range))
find-remove (x ∷ l) f zero at before after q =
    by_key (λ b. find nat_cmp q l ≡ cond b None (cond (eq_by_cmp nat_cmp q x.0) (Some x.1) (find nat_cmp q l))) q f
    (λ same. ap (λ n. find nat_cmp n l) same
    ∙ find_absent l f (λ j lt. after (suc j) (omega arith) (omega arith)))
    (λ apart. sym (ap (λ b. cond b (Some x.1) (find nat_cmp q l))
    (tied_other q x.0 (λ e. apart (e ∙ at.has_flow)))))
find-remove (x ∷ l) f (suc i) at before after q =
    ap (cond (eq_by_cmp nat_cmp q x.0) (Some x.1))
    (find-remove l f i (IsAt-rest x l f i at) (LacksBefore-rest x l f i before)
    (λ j lt in_range. after (suc j) (omega arith) (omega arith)) q)
    ∙ by_key
    (λ b. cond b (Some x.1) (cond (eq_by_cmp nat_cmp q f) None (find nat_cmp q l))
    ≡ cond (eq_by_cmp nat_cmp q f) None (cond b (Some x.1) (find nat_cmp q l)))
    q x.0
    (λ same. sym (ap (λ b. cond b None (Some x.1)) (tied_other q f (λ e. before 0 (omega arith) (sym same ∙ e)))))
    (λ _. refl)

-- ---- The search

module _ (l : Pairs) (rising : IsRising l) (f : ℕ) where
  -- the comparisons with f rise along the pairs, as a binary search asks
  comparisons_rise : IsNonDecreasingBy (λ pair. ordering_index (nat_cmp pair.0 f)) l
  comparisons_rise =
      IsNonDecreasingBy-from_default (λ pair. ordering_index (nat_cmp pair.0 f)) l (0, 0) (λ i j le in_range.
      let flows_rise : flow_at l i ≤ flow_at l j =
      grind (arith, rising i j, λ (same : i ≡ j). ap (flow_at l) same) in
      grind (arith, nat_tests))

  pub searched : (r : Result ℕ ℕ) → IsSearchInRange r (length l) → IsBinarySearchResult (λ pair. nat_cmp pair.0 f) l r
      → IfOk r (IsAt l f) × IfErr r (IsGapFor l f)
  searched (Ok at) in_range equal =
      (record { in_range = in_range; has_flow = ranked _ f _ (sym (equal (0, 0))) }, tt)
  searched (Err at) in_range parted = (
    tt,
    record {
      in_range = in_range;
      lesser_before = λ j lt. ranked _ f _ (sym ((parted comparisons_rise).0 j (0, 0) (omega arith) lt));
      greater_after = λ j le lt. ranked _ f _ (sym ((parted comparisons_rise).1 j (0, 0) le lt));
    },
  )

-- ---- A pair that is there

module _ (l : Pairs) (rising : IsRising l) (f i : ℕ) (at : IsAt l f i) where
  lacks_before_at : LacksBefore l f i
  lacks_before_at j lt same = omega (arith, rising j i lt at.in_range, at.has_flow)

  lacks_after_at : LacksAfter l f i
  lacks_after_at j lt in_range same = omega (arith, rising i j lt in_range, at.has_flow)

  pub get_at : get (key_map l) f ≡ Some (get_or l i (0, 0)).1
  get_at = get-from_entries nat_cmp_total l f ∙ find_present l f i at lacks_before_at

  pub key_map-remove : key_map (remove l i) ≡ map.remove (key_map l) f
  key_map-remove =
      same_map nat_cmp_total nat_cmp-IsAntisymmetric _ _ (λ q.
      get-from_entries nat_cmp_total (remove l i) q
      ∙ find-remove l f i at lacks_before_at lacks_after_at q
      ∙ ap (cond (eq_by_cmp nat_cmp q f) None) (sym (get-from_entries nat_cmp_total l q))
      ∙ sym (get-remove nat_cmp_total (key_map l) f q))

-- ---- A gap

module _ (l : Pairs) (f i : ℕ) (gap : IsGapFor l f i) where
  pub get_in_gap : get (key_map l) f ≡ None
  get_in_gap =
      get-from_entries nat_cmp_total l f
      ∙ find_absent l f (λ j lt same. grind (arith, gap.lesser_before j, gap.greater_after j))

  pub key_map-insert : (v : ℕ) → key_map (insert l i (f, v)) ≡ map.insert (key_map l) f v
  key_map-insert v =
      same_map nat_cmp_total nat_cmp-IsAntisymmetric _ _ (λ q.
      get-from_entries nat_cmp_total (insert l i (f, v)) q
      ∙ find-insert l f v i (λ j lt same. omega (arith, gap.lesser_before j lt)) q
      ∙ ap (cond (eq_by_cmp nat_cmp q f) (Some v)) (sym (get-from_entries nat_cmp_total l q))
      ∙ sym (get-insert nat_cmp_total (key_map l) f v q))

  -- each flow is an old one below the gap, f at it, or an old one moved up by one
  pub IsRising-insert : (v : ℕ) → IsRising l → IsRising (insert l i (f, v))
  IsRising-insert v rising j k lt inside =
      let new = insert l i (f, v) in
      let flow = λ (x : ℕ × ℕ). x.0 in
      let long = length-insert l i (f, v) gap.in_range in
      let below : (n : ℕ) → n < i → flow_at new n ≡ flow_at l n =
      λ n lower. ap flow (get_or-insert_below l i (f, v) (0, 0) n lower gap.in_range) in
      let here : (n : ℕ) → n ≡ i → flow_at new n ≡ f =
      λ n is. rw is (ap flow (get_or-insert_at l i (f, v) (0, 0) gap.in_range)) in
      let above : (n : ℕ) → i < n → flow_at new n ≡ flow_at l (n - 1) =
      λ n higher. subst (λ q. flow_at new q ≡ flow_at l (n - 1)) {x = n - 1 + 1} (omega arith)
      (ap flow (get_or-insert_above l i (f, v) (0, 0) (n - 1) (omega arith) gap.in_range)) in
      grind (
        arith,
        below j,
        here j,
        above j,
        below k,
        here k,
        above k,
        rising j k,
        rising j (k - 1),
        rising (j - 1) (k - 1),
        gap.lesser_before j,
        gap.greater_after (k - 1),
      )

-- the map has as many keys as there are pairs
pub len-key_map : (l : Pairs) → IsRising l → len (key_map l) ≡ length l
len-key_map [] rising = len-empty nat_cmp ℕ
len-key_map (x ∷ l) rising =
    let rest : IsRising l = λ i j lt in_range. rising (suc i) (suc j) (omega arith) (omega arith) in
    let absent =
    get-from_entries nat_cmp_total l x.0
    ∙ find_absent l x.0 (λ j lt same. omega (arith, rising 0 (suc j) (omega arith) (omega arith))) in
    len-insert_new (key_map l) x.0 x.1 absent ∙ omega (arith, len-key_map l rest)
