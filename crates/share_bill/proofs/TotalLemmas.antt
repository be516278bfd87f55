-- Tenants by their names: where each stands, and what it sent.
use Rattle.std.specs.Prelude.{◌≡◌, ◌<◌, ◌≤◌, ◌+◌, ℕ, zero, suc, Bool, true, false, not, List, [], ◌∷◌, ◌++◌, length}
use Rattle.std.specs.Prelude.{map, filter}
use Rattle.std.specs.Prelude.{if◌then◌else◌, nat_lt}
use Rattle.std.specs.Str.{bytes_eq}
use mathlib.Core.List.{append_assoc}
use Rattle.std.proofs.Common.{refl, ap, sym, ◌∙◌, subst, arith, set, get_or}
use Rattle.std.proofs.lemmas.Bool.{lt-ltb}
use Rattle.std.proofs.lemmas.Bool.Decides.{nat_tests}
use Rattle.std.proofs.lemmas.List.{append-nil, map-append}
use Rattle.std.proofs.lemmas.List.Elements.{filter-append}
use Rattle.std.proofs.lemmas.List.Sums.{position_or_len_is}
use Rattle.share_model.proofs.lemmas.lists.SumLemmas.{same_name, name_same, name_sym}
use Rattle.share_bill.specs.declared.bill.running.TenantBill.{TenantBill}
use Rattle.share_bill.specs.declared.bill.total.Figures.{Figures}
use Rattle.share_bill.specs.declared.bill.total.TenantTotal.{TenantTotal}
use Rattle.share_bill.specs.Totals.{no_figures, plus_row, name_of, row_name, is_other, each_once, has_name, with_name}
use Rattle.share_bill.specs.Totals.{index_of, figures_of, figures_and, figures_with}

-- Tests on names

turned : (a b : List ℕ) → bytes_eq a b ≡ false → bytes_eq b a ≡ false
turned a b test = name_sym b a ∙ test

-- Names, each once

kept_if : (n e : List ℕ) (es : List (List ℕ)) (b : Bool) → bytes_eq e n ≡ b
    → filter (is_other n) (e ∷ es) ≡ (if not b then e ∷ filter (is_other n) es else filter (is_other n) es)
kept_if n e es b test = ap (λ t. if not t then e ∷ filter (is_other n) es else filter (is_other n) es) test

has_filter : (n m : List ℕ) → bytes_eq n m ≡ false → (es : List (List ℕ))
    → has_name m (filter (is_other n) es) ≡ has_name m es
has_filter n m differ [] = refl
has_filter n m differ (e ∷ es) = by (bytes_eq e n) refl (has_filter n m differ es)
  where
    by : (b : Bool) → bytes_eq e n ≡ b → has_name m (filter (is_other n) es) ≡ has_name m es
        → has_name m (filter (is_other n) (e ∷ es)) ≡ has_name m (e ∷ es)
    by true test rest =
        ap (has_name m) (kept_if n e es true test)
        ∙ (rest
        ∙ sym (ap (λ b. if b then true else has_name m es) (ap (λ x. bytes_eq x m) (same_name e n test) ∙ differ)))
    by false test rest =
        ap (has_name m) (kept_if n e es false test) ∙ ap (λ h. if bytes_eq e m then true else h) rest

once_by : (n m : List ℕ) (es : List (List ℕ)) (b h : Bool) → bytes_eq n m ≡ b → has_name m es ≡ h
    → n ∷ filter (is_other n) (if h then es else es ++ m ∷ [])
    ≡ (if (if b then true else has_name m (filter (is_other n) es)) then n ∷ filter (is_other n) es
    else (n ∷ filter (is_other n) es) ++ m ∷ [])
once_by n m es true true test has = refl
once_by n m es true false test has =
    ap (λ l. n ∷ l)
    (filter-append (is_other n) es (m ∷ [])
    ∙ (ap (λ l. filter (is_other n) es ++ l) (kept_if n m [] true (name_same m n (sym (same_name n m test))))
    ∙ append-nil (filter (is_other n) es)))
once_by n m es false true test has =
    sym (ap (λ t. if t then n ∷ filter (is_other n) es else (n ∷ filter (is_other n) es) ++ m ∷ [])
    (has_filter n m test es ∙ has))
once_by n m es false false test has =
    ap (λ l. n ∷ l)
    (filter-append (is_other n) es (m ∷ [])
    ∙ ap (λ l. filter (is_other n) es ++ l) (kept_if n m [] false (turned n m test)))
    ∙ sym (ap (λ t. if t then n ∷ filter (is_other n) es else (n ∷ filter (is_other n) es) ++ m ∷ [])
    (has_filter n m test es ∙ has))

pub once-more : (ns : List (List ℕ)) (m : List ℕ) → each_once (ns ++ m ∷ []) ≡ with_name (each_once ns) m
once-more [] m = refl
once-more (n ∷ ns) m =
    ap (λ l. n ∷ filter (is_other n) l) (once-more ns m)
    ∙ once_by n m (each_once ns) (bytes_eq n m) (has_name m (each_once ns)) refl refl

-- one more row
pub names-more : (names : List (List ℕ)) (rows : List TenantBill) (row : TenantBill)
    → with_name (each_once (names ++ map row_name rows)) row.name
    ≡ each_once (names ++ map row_name (rows ++ row ∷ []))
names-more names rows row =
    sym (once-more (names ++ map row_name rows) row.name)
    ∙ ap each_once (append_assoc names (map row_name rows) (row.name ∷ [])
    ∙ ap (λ l. names ++ l) (sym (map-append row_name rows (row ∷ []))))

pub figures-more : (name : List ℕ) (rows : List TenantBill) (row : TenantBill) (sent : Figures)
    → figures_and name (figures_with name rows sent) row ≡ figures_with name (rows ++ row ∷ []) sent
figures-more name [] row sent = refl
figures-more name (r ∷ rows) row sent = figures-more name rows row (figures_and name sent r)

-- The index of a tenant

has_by : (b h : Bool) (i n : ℕ) → h ≡ nat_lt i n
    → (if b then true else h) ≡ nat_lt (if not b then 1 + i else 0) (suc n)
has_by true h i n is = grind (arith, nat_tests)
has_by false h i n is = let next : nat_lt i n ≡ nat_lt (1 + i) (suc n) = grind (arith, nat_tests) in is ∙ next

has_index : (ts : List TenantTotal) (name : List ℕ)
    → has_name name (map name_of ts) ≡ nat_lt (index_of ts name) (length ts)
has_index [] name = refl
has_index (t ∷ ts) name =
    has_by (bytes_eq t.name name) (has_name name (map name_of ts)) (index_of ts name) (length ts) (has_index ts name)

swapped : (a n other : List ℕ) (x y z : Figures) (p q : Bool) → bytes_eq a n ≡ false → bytes_eq a other ≡ p
    → bytes_eq n other ≡ q → (if p then x else (if q then y else z)) ≡ (if q then y else (if p then x else z))
swapped a n other x y z true true differ one two =
    let yes = name_same a n (same_name a other one ∙ sym (same_name n other two)) in cc
swapped a n other x y z true false differ one two = refl
swapped a n other x y z false true differ one two = refl
swapped a n other x y z false false differ one two = refl

figures_absent : (ts : List TenantTotal) (name : List ℕ) → has_name name (map name_of ts) ≡ false
    → figures_of ts name ≡ no_figures
figures_absent [] name none = refl
figures_absent (t ∷ ts) name none = by (bytes_eq t.name name) refl (figures_absent ts name)
  where
    by : (b : Bool) → bytes_eq t.name name ≡ b
        → (has_name name (map name_of ts) ≡ false → figures_of ts name ≡ no_figures)
        → figures_of (t ∷ ts) name ≡ no_figures
    by true test rest =
        let yes : has_name name (map name_of (t ∷ ts)) ≡ true =
        ap (λ c. if c then true else has_name name (map name_of ts)) test in cc
    by false test rest =
        ap (λ c. if c then t.sent else figures_of ts name) test
        ∙ rest (sym (ap (λ c. if c then true else has_name name (map name_of ts)) test) ∙ none)

pushed_figures : (ts : List TenantTotal) (x : TenantTotal) (other : List ℕ)
    → has_name x.name (map name_of ts) ≡ false
    → figures_of (ts ++ x ∷ []) other ≡ (if bytes_eq x.name other then x.sent else figures_of ts other)
pushed_figures [] x other none = refl
pushed_figures (t ∷ ts) x other none = by (bytes_eq t.name x.name) refl (pushed_figures ts x other)
  where
    by : (b : Bool) → bytes_eq t.name x.name ≡ b
        → (has_name x.name (map name_of ts) ≡ false
        → figures_of (ts ++ x ∷ []) other ≡ (if bytes_eq x.name other then x.sent else figures_of ts other))
        → figures_of (t ∷ (ts ++ x ∷ [])) other
        ≡ (if bytes_eq x.name other then x.sent else figures_of (t ∷ ts) other)
    by true test rest =
        let yes : has_name x.name (map name_of (t ∷ ts)) ≡ true =
        ap (λ c. if c then true else has_name x.name (map name_of ts)) test in cc
    by false test rest =
        ap (λ f. if bytes_eq t.name other then t.sent else f)
        (rest (sym (ap (λ c. if c then true else has_name x.name (map name_of ts)) test) ∙ none))
        ∙ swapped t.name x.name other t.sent x.sent (figures_of ts other) (bytes_eq t.name other)
        (bytes_eq x.name other) test refl refl

-- Entries that are set

set_names : (ts : List TenantTotal) (i : ℕ) (x d : TenantTotal) → x.name ≡ (get_or ts i d).name → i < length ts
    → map name_of (set ts i x) ≡ map name_of ts
set_names [] i x d same inside = absurd (omega (arith, inside))
set_names (t ∷ ts) zero x d same inside = ap (λ n. n ∷ map name_of ts) same
set_names (t ∷ ts) (suc i) x d same inside = ap (λ l. t.name ∷ l) (set_names ts i x d same (omega (arith, inside)))

entry_at : (ts : List TenantTotal) (name : List ℕ) (d : TenantTotal) → index_of ts name < length ts
    → ((get_or ts (index_of ts name) d).name ≡ name) × ((get_or ts (index_of ts name) d).sent ≡ figures_of ts name)
entry_at [] name d inside = absurd (omega (arith, inside))
entry_at (t ∷ ts) name d inside = by (bytes_eq t.name name) refl inside (entry_at ts name d)
  where
    by : (b : Bool) → bytes_eq t.name name ≡ b → (if not b then 1 + index_of ts name else 0) < length (t ∷ ts)
        → (index_of ts name < length ts → ((get_or ts (index_of ts name) d).name ≡ name)
        × ((get_or ts (index_of ts name) d).sent ≡ figures_of ts name))
        → ((get_or (t ∷ ts) (if not b then 1 + index_of ts name else 0) d).name ≡ name)
        × ((get_or (t ∷ ts) (if not b then 1 + index_of ts name else 0) d).sent
        ≡ (if b then t.sent else figures_of ts name))
    by true test inside rest = (same_name t.name name test, refl)
    by false test inside rest =
        let more : 1 + index_of ts name ≡ suc (index_of ts name) = omega arith in
        subst (λ i. ((get_or (t ∷ ts) i d).name ≡ name) × ((get_or (t ∷ ts) i d).sent ≡ figures_of ts name)) (sym more)
        (rest (omega (arith, inside)))

set_figures : (ts : List TenantTotal) (x : TenantTotal) (name other : List ℕ) → x.name ≡ name
    → index_of ts name < length ts
    → figures_of (set ts (index_of ts name) x) other ≡ (if bytes_eq name other then x.sent else figures_of ts other)
set_figures [] x name other is inside = absurd (omega (arith, inside))
set_figures (t ∷ ts) x name other is inside =
    by (bytes_eq t.name name) refl inside (set_figures ts x name other is)
  where
    pick : (q : Bool) → bytes_eq name other ≡ q → t.name ≡ name
        → (if q then x.sent else figures_of ts other)
        ≡ (if q then x.sent else (if bytes_eq t.name other then t.sent else figures_of ts other))
    pick true test same = refl
    pick false test same =
        sym (ap (λ c. if c then t.sent else figures_of ts other) (ap (λ n. bytes_eq n other) same ∙ test))

    by : (b : Bool) → bytes_eq t.name name ≡ b → (if not b then 1 + index_of ts name else 0) < length (t ∷ ts)
        → (index_of ts name < length ts → figures_of (set ts (index_of ts name) x) other
        ≡ (if bytes_eq name other then x.sent else figures_of ts other))
        → figures_of (set (t ∷ ts) (if not b then 1 + index_of ts name else 0) x) other
        ≡ (if bytes_eq name other then x.sent else figures_of (t ∷ ts) other)
    by true test inside rest =
        ap (λ n. if bytes_eq n other then x.sent else figures_of ts other) is
        ∙ pick (bytes_eq name other) refl (same_name t.name name test)
    by false test inside rest =
        let more : 1 + index_of ts name ≡ suc (index_of ts name) = omega arith in
        ap (λ i. figures_of (set (t ∷ ts) i x) other) more
        ∙ ap (λ f. if bytes_eq t.name other then t.sent else f) (rest (omega (arith, inside)))
        ∙ swapped t.name name other t.sent x.sent (figures_of ts other) (bytes_eq t.name other) (bytes_eq name other)
        test refl refl

-- no entry has the name
pub index-none : (ts : List TenantTotal) (name : List ℕ) (at : ℕ) → length ts ≤ at → at ≤ length ts
    → ((k : ℕ) → k < at → (d : TenantTotal) → bytes_eq (get_or ts k d).name name ≡ false)
    → length ts ≡ index_of ts name
index-none ts name at over under none =
    let d : TenantTotal = record { name = name; sent = no_figures } in
    sym (position_or_len_is (λ (t : TenantTotal). bytes_eq t.name name) ts (length ts) d (omega arith)
    (λ k below. none k (omega (arith, below, over)) d) (λ inside. absurd (omega (arith, inside))))

-- A row that is added

module _ (ts : List TenantTotal) (row : TenantBill) where
  -- to an entry of its name
  module _ (d x : TenantTotal) (inside : index_of ts row.name < length ts)
      (name_is : x.name ≡ (get_or ts (index_of ts row.name) d).name)
      (sent_is : x.sent ≡ plus_row (get_or ts (index_of ts row.name) d).sent row) where
    pub names-added : map name_of (set ts (index_of ts row.name) x) ≡ with_name (map name_of ts) row.name
    names-added =
        set_names ts (index_of ts row.name) x d name_is inside
        ∙ sym (ap (λ b. if b then map name_of ts else map name_of ts ++ row.name ∷ [])
        (has_index ts row.name ∙ lt-ltb (index_of ts row.name) (length ts) inside))

    pub figures-added : (other : List ℕ)
        → figures_of (set ts (index_of ts row.name) x) other ≡ figures_and other (figures_of ts other) row
    figures-added other =
        set_figures ts x row.name other (name_is ∙ (entry_at ts row.name d inside).0) inside
        ∙ by (bytes_eq row.name other) refl
      where
        by : (b : Bool) → bytes_eq row.name other ≡ b → (if b then x.sent else figures_of ts other)
            ≡ (if b then plus_row (figures_of ts other) row else figures_of ts other)
        by true test =
            sent_is
            ∙ ap (λ f. plus_row f row)
            ((entry_at ts row.name d inside).1 ∙ ap (figures_of ts) (same_name row.name other test))
        by false test = refl

  -- as the first one of its name
  module _ (outside : nat_lt (index_of ts row.name) (length ts) ≡ false) where
    abbrev first_of : TenantTotal
    first_of = record { name = row.name; sent = plus_row no_figures row }

    none_yet : has_name row.name (map name_of ts) ≡ false
    none_yet = has_index ts row.name ∙ outside

    pub names-pushed : map name_of (ts ++ first_of ∷ []) ≡ with_name (map name_of ts) row.name
    names-pushed =
        map-append name_of ts (first_of ∷ [])
        ∙ sym (ap (λ b. if b then map name_of ts else map name_of ts ++ row.name ∷ []) none_yet)

    pub figures-pushed : (other : List ℕ)
        → figures_of (ts ++ first_of ∷ []) other ≡ figures_and other (figures_of ts other) row
    figures-pushed other = pushed_figures ts first_of other none_yet ∙ by (bytes_eq row.name other) refl
      where
        by : (b : Bool) → bytes_eq row.name other ≡ b
            → (if b then plus_row no_figures row else figures_of ts other)
            ≡ (if b then plus_row (figures_of ts other) row else figures_of ts other)
        by true test =
            ap (λ f. plus_row f row)
            (sym (figures_absent ts row.name none_yet) ∙ ap (figures_of ts) (same_name row.name other test))
        by false test = refl
