-- The reading of a table of refusals that refuses nothing, and the contents of the tables then.
use Rattle.std.proofs.Common.{◌≡◌, ℕ, ◌+◌, ◌≤◌, Bool, true, false, not, cond, ◌||◌, List, [], ◌∷◌, ◌++◌}
use Rattle.std.proofs.Common.{count_by, bytes_eq, nat_eq, nat_le, Option, None, Some, is_some}
use Rattle.std.proofs.Common.{refl, sym, ap, subst, ◌∙◌, arith, true≢false}
use Rattle.std.specs.List.{list_any}
use Rattle.std.specs.Map.{lookup}
use Rattle.std.proofs.lemmas.List.Sums.{sum_by-cons}
use Rattle.std.proofs.lemmas.Bool.Decides.{nat_tests}
use Rattle.share_base.specs.declared.refusal.Refusal.{Refusal}
use Rattle.share_model.specs.declared.funding.OpenFlow.{OpenFlow}
use Rattle.share_model.specs.funding.Graph.{NameBytes, Graph}
use Rattle.share_model.specs.funding.Changes.{is_currency, flow_number}
use Rattle.share_model.specs.funding.WellFormed.{names_of, times, times_named, times_open}
use Rattle.share_model.proofs.lemmas.lists.SumLemmas.{same_name, name_sym}
use Rattle.share_model.proofs.lemmas.lists.CountLemmas.{count-more, count-none_of}
use Rattle.share_model.proofs.lemmas.funding.SettledGraphLemmas.{any_none}

-- a test of a table that answers nothing failed
pub not-refused : (a : Bool) (x : Refusal) (r : Option Refusal) → cond a (Some x) r ≡ None → (a ≡ false) × (r ≡ None)
not-refused true x r e = absurd (cc)
not-refused false x r e = (refl, e)

pub not_false : (b : Bool) → not b ≡ false → b ≡ true
not_false true e = refl
not_false false e = absurd (true≢false e)

pub room : (most n : ℕ) → nat_le most n ≡ false → n + 1 ≤ most
room most n e = grind (arith, nat_tests)

-- Names and numbers that are in the tables
stands-any : (c : NameBytes) (cs : List NameBytes) → list_any (bytes_eq c) cs ≡ true → 1 ≤ times c cs
stands-any c [] e = absurd (true≢false (sym e))
stands-any c (d ∷ cs) e = by (bytes_eq c d) refl e (stands-any c cs)
  where
    by : (b : Bool) → bytes_eq c d ≡ b → (b || list_any (bytes_eq c) cs) ≡ true
        → (list_any (bytes_eq c) cs ≡ true → 1 ≤ times c cs) → 1 ≤ times c (d ∷ cs)
    by true same e rest =
        let here = ap {B = ℕ} (λ b. cond b 1 0) (name_sym d c ∙ same) in
        let sum = sum_by-cons (λ d. cond (bytes_eq d c) 1 0) d cs in
        omega arith
    by false same e rest =
        let more = rest e in
        let sum = sum_by-cons (λ d. cond (bytes_eq d c) 1 0) d cs in
        omega arith

pub stands : (g : Graph) (c : NameBytes) → is_currency g c ≡ true → 1 ≤ times c (names_of g)
stands g c e = stands-any c (names_of g) e

pub absent : (c : NameBytes) (cs : List NameBytes) → list_any (bytes_eq c) cs ≡ false → times c cs ≡ 0
absent c cs e =
    count-none_of (λ d. bytes_eq d c) (λ d. bytes_eq c d ≡ false) cs (any_none (bytes_eq c) cs e)
    (λ d e. name_sym d c ∙ e)

-- a flow that is found by its name is open under its number
pub found-open : (f : NameBytes) (es : List (NameBytes × OpenFlow)) → is_some (lookup (bytes_eq f) es) ≡ true
    → 1 ≤ times_open (flow_number (lookup (bytes_eq f) es)) es
found-open f [] e = absurd (true≢false (sym e))
found-open f (x ∷ es) e = by (bytes_eq f x.0) e (found-open f es)
  where
    nat_refl : (n : ℕ) → nat_eq n n ≡ true
    nat_refl n = grind (arith, nat_tests)

    by : (b : Bool) → is_some (cond b (Some x.1) (lookup (bytes_eq f) es)) ≡ true
        → (is_some (lookup (bytes_eq f) es) ≡ true → 1 ≤ times_open (flow_number (lookup (bytes_eq f) es)) es)
        → 1 ≤ times_open (flow_number (cond b (Some x.1) (lookup (bytes_eq f) es))) (x ∷ es)
    by true e rest =
        let here = ap {B = ℕ} (λ b. cond b 1 0) (nat_refl x.1.number) in
        let sum = sum_by-cons (λ (e : NameBytes × OpenFlow). cond (nat_eq e.1.number x.1.number) 1 0) x es in
        omega arith
    by false e rest =
        let n = flow_number (lookup (bytes_eq f) es) in
        let more = rest e in
        let sum = sum_by-cons (λ (e : NameBytes × OpenFlow). cond (nat_eq e.1.number n) 1 0) x es in
        omega arith

-- a name by which no flow is found is no flow's
pub unnamed : (f : NameBytes) (es : List (NameBytes × OpenFlow)) → is_some (lookup (bytes_eq f) es) ≡ false
    → times_named f es ≡ 0
unnamed f [] e = refl
unnamed f (x ∷ es) e = by (bytes_eq f x.0) refl e (unnamed f es)
  where
    by : (b : Bool) → bytes_eq f x.0 ≡ b → is_some (cond b (Some x.1) (lookup (bytes_eq f) es)) ≡ false
        → (is_some (lookup (bytes_eq f) es) ≡ false → times_named f es ≡ 0) → times_named f (x ∷ es) ≡ 0
    by true same e rest = absurd (true≢false e)
    by false same e rest =
        let none = rest e in
        let here = ap {B = ℕ} (λ b. cond b 1 0) (name_sym x.0 f ∙ same) in
        let sum = sum_by-cons (λ (e : NameBytes × OpenFlow). cond (bytes_eq e.0 f) 1 0) x es in
        omega arith

-- with a fresh name each name is still there only once
pub once-named : {X : Type 0} (name : X → NameBytes) (x : X) (xs : List X)
    → count_by (λ y. bytes_eq (name y) (name x)) xs ≡ 0 → ((c : NameBytes) → count_by (λ y. bytes_eq (name y) c) xs ≤ 1)
    → (c : NameBytes) → count_by (λ y. bytes_eq (name y) c) (xs ++ x ∷ []) ≤ 1
once-named name x xs fresh once c = by (bytes_eq (name x) c) refl
  where
    more : count_by (λ y. bytes_eq (name y) c) (xs ++ x ∷ [])
        ≡ count_by (λ y. bytes_eq (name y) c) xs + cond (bytes_eq (name x) c) 1 0
    more = count-more (λ y. bytes_eq (name y) c) xs x

    by : (b : Bool) → bytes_eq (name x) c ≡ b → count_by (λ y. bytes_eq (name y) c) (xs ++ x ∷ []) ≤ 1
    by true e =
        let none : count_by (λ y. bytes_eq (name y) c) xs ≡ 0 =
        subst (λ d. count_by (λ y. bytes_eq (name y) d) xs ≡ 0) (same_name (name x) c e) fresh in
        let here = ap {B = ℕ} (λ b. cond b 1 0) e in
        omega (arith, more)
    by false e =
        let here = ap {B = ℕ} (λ b. cond b 1 0) e in
        omega (arith, more, once c)
