-- Laws of finite maps whose keys are numbers: reading after a change, and sums over the entries.
use Rattle.std.proofs.Common.{◌≡◌, ◌≢◌, ◌⊎◌, ℕ, ◌+◌, ◌*◌, ◌<◌, ◌≤◌, ◌-◌, ◌&&◌, inl, inr, is_some, Bool, true, false}
use Rattle.std.proofs.Common.{cond, T, List, [], ◌∷◌, length, None, Some, sum_by, refl, sym, ap, subst, ◌∙◌, arith}
use Rattle.std.proofs.Common.{rules}
use Rattle.std.proofs.lemmas.Bool.{cases_eq}
use Rattle.std.proofs.lemmas.List.Sums.{sum_by-cons}
use Rattle.std.specs.Ordering.{nat_cmp, is_eq, is_lt, eq_by_cmp}
use Rattle.std.proofs.Math.Nat.{suc-mul}
use Rattle.std.specs.declared.cmp.Ordering.TheVariants.{Less, Equal, Greater}
use Rattle.std.specs.Cmp.{nat_cmp_total, ranked}
use Rattle.std.specs.FinMap.{FinMap, get, insert, remove, entries, len, find, put, is_sorted, get-insert, get-remove}
use Rattle.std.specs.FinMap.{get-entries, len-entries, len-insert, len-remove, entries-insert, entries_sorted, same_map}
use Rattle.std.specs.FinMap.{nat_cmp-IsAntisymmetric}
use Rattle.std.specs.FinMap.Entries.{by_order, below_all}

pub tied_same : (k : ℕ) → eq_by_cmp nat_cmp k k ≡ true
tied_same k = grind (arith, rules)

pub tied_other : (j k : ℕ) → j ≢ k → eq_by_cmp nat_cmp j k ≡ false
tied_other j k apart = grind (arith, rules)

pub and_left : (a b : Bool) → T (a && b) → T a
and_left true b h = tt
and_left false b h = absurd h

pub and_right : (a b : Bool) → T (a && b) → T b
and_right true b h = h
and_right false b h = absurd h

before : (j k : ℕ) → T (is_lt (nat_cmp j k)) → j < k
before j k h = elim (nat_cmp j k) as (λ r. r ≡ nat_cmp j k → T (is_lt r) → j < k) [
  | Less ↦ λ e _. ranked j k Less e
  | Equal ↦ λ _ h. absurd h
  | Greater ↦ λ _ h. absurd h
] refl h

pub by_key : (P : Bool → Type 0) (j k : ℕ) → (j ≡ k → P true) → (j ≢ k → P false) → P (eq_by_cmp nat_cmp j k)
by_key P j k same apart =
    elim (cases_eq j k) [
      | inl e ↦ subst P (sym (ap (λ n. eq_by_cmp nat_cmp n k) e ∙ tied_same k)) (same e)
      | inr differs ↦ subst P (sym (tied_other j k differs)) (apart differs)
    ]

module _ {X : Type 0} where
  pub get-insert_same : (m : FinMap nat_cmp X) (k : ℕ) (v : X) → get (insert m k v) k ≡ Some v
  get-insert_same m k v = get-insert nat_cmp_total m k v k ∙ ap (λ b. cond b (Some v) (get m k)) (tied_same k)

  pub get-insert_other : (m : FinMap nat_cmp X) (k : ℕ) (v : X) (q : ℕ) → q ≢ k → get (insert m k v) q ≡ get m q
  get-insert_other m k v q apart =
      get-insert nat_cmp_total m k v q ∙ ap (λ b. cond b (Some v) (get m q)) (tied_other q k apart)

  pub get-remove_same : (m : FinMap nat_cmp X) (k : ℕ) → get (remove m k) k ≡ None
  get-remove_same m k = get-remove nat_cmp_total m k k ∙ ap (λ b. cond b None (get m k)) (tied_same k)

  pub get-remove_other : (m : FinMap nat_cmp X) (k q : ℕ) → q ≢ k → get (remove m k) q ≡ get m q
  get-remove_other m k q apart = get-remove nat_cmp_total m k q ∙ ap (λ b. cond b None (get m q)) (tied_other q k apart)

  pub insert-insert_same : (m : FinMap nat_cmp X) (k : ℕ) (v w : X) → insert (insert m k v) k w ≡ insert m k w
  insert-insert_same m k v w =
      same_map nat_cmp_total nat_cmp-IsAntisymmetric _ _ (λ q.
      get-insert nat_cmp_total (insert m k v) k w q
      ∙ ap (cond (eq_by_cmp nat_cmp q k) (Some w)) (get-insert nat_cmp_total m k v q)
      ∙ by_key (λ b. cond b (Some w) (cond b (Some v) (get m q)) ≡ cond b (Some w) (get m q)) q k (λ _. refl)
      (λ _. refl)
      ∙ sym (get-insert nat_cmp_total m k w q))

  pub insert-insert_other : (m : FinMap nat_cmp X) (j k : ℕ) (v w : X) → j ≢ k
      → insert (insert m j v) k w ≡ insert (insert m k w) j v
  insert-insert_other m j k v w apart =
      same_map nat_cmp_total nat_cmp-IsAntisymmetric _ _ (λ q.
      get-insert nat_cmp_total (insert m j v) k w q
      ∙ ap (cond (eq_by_cmp nat_cmp q k) (Some w)) (get-insert nat_cmp_total m j v q)
      ∙ by_key
      (λ b. cond b (Some w) (cond (eq_by_cmp nat_cmp q j) (Some v) (get m q))
      ≡ cond (eq_by_cmp nat_cmp q j) (Some v) (cond b (Some w) (get m q)))
      q k
      (λ e. ap (λ b. cond b (Some v) (Some w)) (sym (tied_other q j (λ is. apart (sym is ∙ e)))) ∙ refl)
      (λ _. refl)
      ∙ ap (cond (eq_by_cmp nat_cmp q j) (Some v)) (sym (get-insert nat_cmp_total m k w q))
      ∙ sym (get-insert nat_cmp_total (insert m k w) j v q))

  -- to put back what was taken out, or another value there
  pub insert-remove : (m : FinMap nat_cmp X) (k : ℕ) (w : X) → insert (remove m k) k w ≡ insert m k w
  insert-remove m k w =
      same_map nat_cmp_total nat_cmp-IsAntisymmetric _ _ (λ q.
      get-insert nat_cmp_total (remove m k) k w q
      ∙ ap (cond (eq_by_cmp nat_cmp q k) (Some w)) (get-remove nat_cmp_total m k q)
      ∙ by_key (λ b. cond b (Some w) (cond b None (get m q)) ≡ cond b (Some w) (get m q)) q k (λ _. refl) (λ _. refl)
      ∙ sym (get-insert nat_cmp_total m k w q))

  pub insert-remove_other : (m : FinMap nat_cmp X) (j k : ℕ) (v : X) → j ≢ k
      → insert (remove m j) k v ≡ remove (insert m k v) j
  insert-remove_other m j k v apart =
      same_map nat_cmp_total nat_cmp-IsAntisymmetric _ _ (λ q.
      get-insert nat_cmp_total (remove m j) k v q
      ∙ ap (cond (eq_by_cmp nat_cmp q k) (Some v)) (get-remove nat_cmp_total m j q)
      ∙ by_key
      (λ b. cond b (Some v) (cond (eq_by_cmp nat_cmp q j) None (get m q))
      ≡ cond (eq_by_cmp nat_cmp q j) None (cond b (Some v) (get m q)))
      q k
      (λ e. sym (ap (λ b. cond b None (Some v)) (tied_other q j (λ is. apart (sym is ∙ e)))))
      (λ _. refl)
      ∙ ap (cond (eq_by_cmp nat_cmp q j) None) (sym (get-insert nat_cmp_total m k v q))
      ∙ sym (get-remove nat_cmp_total (insert m k v) j q))

  -- there is nothing to remove
  pub remove_absent : (m : FinMap nat_cmp X) (k : ℕ) → get m k ≡ None → remove m k ≡ m
  remove_absent m k absent =
      same_map nat_cmp_total nat_cmp-IsAntisymmetric _ _ (λ q.
      get-remove nat_cmp_total m k q
      ∙ by_key (λ b. cond b None (get m q) ≡ get m q) q k (λ e. sym (ap (get m) e ∙ absent)) (λ _. refl))

  pub insert_found : (m : FinMap nat_cmp X) (k : ℕ) (v : X) → get m k ≡ Some v → insert m k v ≡ m
  insert_found m k v found =
      same_map nat_cmp_total nat_cmp-IsAntisymmetric _ _ (λ q.
      get-insert nat_cmp_total m k v q
      ∙ by_key (λ b. cond b (Some v) (get m q) ≡ get m q) q k (λ e. sym (ap (get m) e ∙ found)) (λ _. refl))

  pub len-insert_new : (m : FinMap nat_cmp X) (k : ℕ) (v : X) → get m k ≡ None → len (insert m k v) ≡ len m + 1
  len-insert_new m k v absent = len-insert nat_cmp_total m k v ∙ ap (λ o. cond (is_some o) (len m) (len m + 1)) absent

  pub len-insert_found : (m : FinMap nat_cmp X) (k : ℕ) (v w : X) → get m k ≡ Some v → len (insert m k w) ≡ len m
  len-insert_found m k v w found = len-insert nat_cmp_total m k w ∙ ap (λ o. cond (is_some o) (len m) (len m + 1)) found

  pub len-remove_found : (m : FinMap nat_cmp X) (k : ℕ) (v : X) → get m k ≡ Some v → len (remove m k) ≡ len m - 1
  len-remove_found m k v found = len-remove nat_cmp_total m k ∙ ap (λ o. cond (is_some o) (len m - 1) (len m)) found

  pub len-remove_le : (m : FinMap nat_cmp X) (k : ℕ) → len (remove m k) ≤ len m
  len-remove_le m k =
      rw (len-remove nat_cmp_total m k)
      (elim (is_some (get m k)) as (λ b. cond b (len m - 1) (len m) ≤ len m) [
        | true ↦ omega arith
        | false ↦ omega arith
      ])

  -- ---- sums over the entries
  sum_by-put : (g : ℕ × X → ℕ) (k : ℕ) (v : X) (es : List (ℕ × X)) → find nat_cmp k es ≡ None
      → sum_by g (put nat_cmp k v es) ≡ g (k, v) + sum_by g es
  sum_by-put g k v [] absent = sum_by-cons g (k, v) []
  sum_by-put g k v (e ∷ es) absent =
      elim (nat_cmp k e.0) as (λ r. cond (is_eq r) (Some e.1) (find nat_cmp k es) ≡ None
      → sum_by g (by_order r ((k, v) ∷ e ∷ es) ((e.0, v) ∷ es) (e ∷ put nat_cmp k v es))
      ≡ g (k, v) + sum_by g (e ∷ es)) [
        | Less ↦ λ n. sum_by-cons g (k, v) (e ∷ es)
        | Equal ↦ λ n. absurd (cc)
        | Greater ↦ λ n. omega (arith, sum_by-cons g e (put nat_cmp k v es), sum_by-cons g e es, sum_by-put g k v es n)
      ] absent

  pub sum-insert_new : (g : ℕ × X → ℕ) (m : FinMap nat_cmp X) (k : ℕ) (v : X) → get m k ≡ None
      → sum_by g (entries (insert m k v)) ≡ g (k, v) + sum_by g (entries m)
  sum-insert_new g m k v absent =
      ap (sum_by g) (entries-insert nat_cmp_total m k v) ∙ sum_by-put g k v (entries m) (sym (get-entries m k) ∙ absent)

  pub sum-remove : (g : ℕ × X → ℕ) (m : FinMap nat_cmp X) (k : ℕ) (v : X) → get m k ≡ Some v
      → g (k, v) + sum_by g (entries (remove m k)) ≡ sum_by g (entries m)
  sum-remove g m k v found =
      sym (sum-insert_new g (remove m k) k v (get-remove_same m k))
      ∙ ap (λ n. sum_by g (entries n)) (insert-remove m k v ∙ insert_found m k v found)

  pub sum-insert_found : (g : ℕ × X → ℕ) (m : FinMap nat_cmp X) (k : ℕ) (v w : X) → get m k ≡ Some v
      → g (k, v) + sum_by g (entries (insert m k w)) ≡ g (k, w) + sum_by g (entries m)
  sum-insert_found g m k v w found =
      let put_back = sum-insert_new g (remove m k) k w (get-remove_same m k) in
      let is : sum_by g (entries (insert m k w)) ≡ g (k, w) + sum_by g (entries (remove m k)) =
      ap (λ n. sum_by g (entries n)) (sym (insert-remove m k w)) ∙ put_back in
      omega (arith, is, sum-remove g m k v found)

  pub found_later : (k : ℕ) (es : List (ℕ × X)) (q : ℕ) (v : X) → T (below_all nat_cmp k es)
      → find nat_cmp q es ≡ Some v → k < q
  found_later k [] q v below found = absurd (cc)
  found_later k (e ∷ es) q v below found =
      by_key (λ b. cond b (Some e.1) (find nat_cmp q es) ≡ Some v → k < q) q e.0
      (λ is _. subst (λ n. k < n) (sym is) (before k e.0 (and_left _ _ below)))
      (λ _ rest. found_later k es q v (and_right _ _ below) rest)
      found

  pub find_after : (e : ℕ × X) (es : List (ℕ × X)) (q : ℕ) (v : X) → T (below_all nat_cmp e.0 es)
      → find nat_cmp q es ≡ Some v → find nat_cmp q (e ∷ es) ≡ Some v
  find_after e es q v below found =
      let later = found_later e.0 es q v below found in
      ap (λ b. cond b (Some e.1) (find nat_cmp q es)) (tied_other q e.0 (omega arith)) ∙ found

  pub find_head : (e : ℕ × X) (es : List (ℕ × X)) → find nat_cmp e.0 (e ∷ es) ≡ Some e.1
  find_head e es = ap (λ b. cond b (Some e.1) (find nat_cmp e.0 es)) (tied_same e.0)

  sum_within : (g : ℕ × X → ℕ) (bound : ℕ) (es : List (ℕ × X)) → T (is_sorted nat_cmp es)
      → ((k : ℕ) (v : X) → find nat_cmp k es ≡ Some v → g (k, v) ≤ bound) → sum_by g es ≤ length es * bound
  sum_within g bound [] sorted each = omega arith
  sum_within g bound (e ∷ es) sorted each =
      let below = and_left (below_all nat_cmp e.0 es) (is_sorted nat_cmp es) sorted in
      let later = and_right (below_all nat_cmp e.0 es) (is_sorted nat_cmp es) sorted in
      let rest : sum_by g es ≤ length es * bound =
      sum_within g bound es later (λ k v found. each k v (find_after e es k v below found)) in
      let head = each e.0 e.1 (find_head e es) in
      omega (arith, sum_by-cons g e es, head, rest, suc-mul (length es) bound)

  pub sum_le : (g : ℕ × X → ℕ) (bound : ℕ) (m : FinMap nat_cmp X)
      → ((k : ℕ) (v : X) → get m k ≡ Some v → g (k, v) ≤ bound) → sum_by g (entries m) ≤ len m * bound
  sum_le g bound m each =
      rw (len-entries m) (sum_within g bound (entries m) (entries_sorted m)
      (λ k v found. each k v (get-entries m k ∙ found)))

  -- the entry that is found is at the head, or in the rest
  pub found_in : (e : ℕ × X) (es : List (ℕ × X)) (q : ℕ) (v : X) → find nat_cmp q (e ∷ es) ≡ Some v
      → ((q ≡ e.0) × (v ≡ e.1)) ⊎ (find nat_cmp q es ≡ Some v)
  found_in e es q v found =
      by_key (λ b. cond b (Some e.1) (find nat_cmp q es) ≡ Some v
      → ((q ≡ e.0) × (v ≡ e.1)) ⊎ (find nat_cmp q es ≡ Some v)) q e.0
      (λ is here. inl (is, cc))
      (λ _ rest. inr rest)
      found
