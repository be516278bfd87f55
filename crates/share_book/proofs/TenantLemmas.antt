-- The tenants of a plan: their flow numbers rise, so no two have one.
use Rattle.std.specs.Prelude.{◌≡◌, ◌<◌, ℕ, Bool, true, false, ◌&&◌, List, [], ◌∷◌, find, nat_eq, nat_lt, bytes_eq}
use Rattle.std.specs.Prelude.{Option, None, Some, if◌then◌else◌}
use Rattle.std.proofs.Common.{refl, ap, sym, ◌∙◌, arith}
use Rattle.std.proofs.lemmas.Bool.{cond-true, cond-false}
use Rattle.std.proofs.lemmas.Bool.Decides.{nat_tests}
use Rattle.std.proofs.lemmas.Option.{same_Some}
use Rattle.share_model.specs.funding.Graph.{NameBytes}
use Rattle.share_model.proofs.lemmas.lists.FirstItemLemmas.{find-holds}
use Rattle.share_model.proofs.lemmas.lists.SumLemmas.{same_name, name_refl}
use Rattle.share_gateway.specs.Plan.{TenantView, ascends, flows_of}
use Rattle.share_gateway.specs.PlanChanges.{is_tenant, flow_by}

pub both_true : (a b : Bool) → (a && b) ≡ true → (a ≡ true) × (b ≡ true)
both_true true b is = (refl, is)
both_true false b is = cc

less_is : (m n : ℕ) → nat_lt m n ≡ true → m < n
less_is m n test = grind (arith, nat_tests, test)

same_test : (n : ℕ) → nat_eq n n ≡ true
same_test n = grind (arith, nat_tests)

other_test : (m n : ℕ) → m < n → nat_eq n m ≡ false
other_test m n less = grind (arith, nat_tests)

-- ---- The first that has a name

-- the flow of a tenant is above each number that is below all
flow_above_by : (n : ℕ) (t u : TenantView) (o : Option TenantView) (b : Bool) → n < t.flow
    → (o ≡ Some u → n < u.flow) → (if b then Some t else o) ≡ Some u → n < u.flow
flow_above_by n t u o true above rest found =
    let same = ap (λ (t : TenantView). t.flow) (same_Some t u found) in omega (arith, same, above)
flow_above_by n t u o false above rest found = rest found

pub flow-above : (p : TenantView → Bool) (n : ℕ) (ts : List TenantView) (u : TenantView)
    → ascends n (flows_of ts) ≡ true
    → find p ts ≡ Some u → n < u.flow
flow-above p n [] u rising found = cc
flow-above p n (t ∷ ts) u rising found =
    let parts = both_true (nat_lt n t.flow) (ascends t.flow (flows_of ts)) rising in
    let first = less_is n t.flow parts.0 in
    flow_above_by n t u (find p ts) (p t) first
    (λ rest. let later = flow-above p t.flow ts u parts.1 rest in omega (arith, later, first)) found

-- the tenant that has a flow's number is the one that was found
numbered_by : (n : ℕ) (t u : TenantView) (o q : Option TenantView) (b : Bool)
    → (o ≡ Some u → (t.flow < u.flow) × (q ≡ Some u)) → (if b then Some t else o) ≡ Some u
    → (if nat_eq u.flow t.flow then Some t else q) ≡ Some u
numbered_by n t u o q true rest found =
    let same = ap (λ (t : TenantView). t.flow) (same_Some t u found) in
    cond-true (nat_eq u.flow t.flow) (Some t) q (ap (nat_eq u.flow) same ∙ same_test u.flow) ∙ found
numbered_by n t u o q false rest found =
    let later = rest found in
    cond-false (nat_eq u.flow t.flow) (Some t) q (other_test t.flow u.flow later.0) ∙ later.1

pub numbered : (p : TenantView → Bool) (n : ℕ) (ts : List TenantView) (u : TenantView)
    → ascends n (flows_of ts) ≡ true → find p ts ≡ Some u
    → find (λ (t : TenantView). nat_eq u.flow t.flow) ts ≡ Some u
numbered p n [] u rising found = cc
numbered p n (t ∷ ts) u rising found =
    let parts = both_true (nat_lt n t.flow) (ascends t.flow (flows_of ts)) rising in
    numbered_by n t u (find p ts) (find (λ (t : TenantView). nat_eq u.flow t.flow) ts) (p t)
    (λ rest. (flow-above p t.flow ts u parts.1 rest, numbered p t.flow ts u parts.1 rest)) found

-- ---- Two names

module _ (ts : List TenantView) (rising : ascends 0 (flows_of ts) ≡ true) where
  pub flow-some : (name : NameBytes) (t : TenantView) → find (is_tenant name) ts ≡ Some t → 0 < t.flow
  flow-some name t found = flow-above (is_tenant name) 0 ts t rising found

  same_flow : (a b : NameBytes) (t u : TenantView) → find (is_tenant a) ts ≡ Some t → find (is_tenant b) ts ≡ Some u
      → t.flow ≡ u.flow → bytes_eq a b ≡ true
  same_flow a b t u first second same =
      let one = numbered (is_tenant a) 0 ts t rising first in
      let other = numbered (is_tenant b) 0 ts u rising second in
      let equal : t ≡ u =
      same_Some t u (sym one ∙ ap (λ n. find (λ (v : TenantView). nat_eq n v.flow) ts) same ∙ other) in
      let names : a ≡ b =
      same_name a t.name (find-holds (is_tenant a) ts t first) ∙ ap (λ (t : TenantView). t.name) equal
      ∙ sym (same_name b u.name (find-holds (is_tenant b) ts u second)) in
      ap (λ c. bytes_eq a c) (sym names) ∙ name_refl a

  apart_by : (a b : NameBytes) (t : TenantView) → find (is_tenant a) ts ≡ Some t → bytes_eq a b ≡ false
      → (o : Option TenantView) → find (is_tenant b) ts ≡ o → (k : Bool) → nat_eq t.flow (flow_by o) ≡ k → k ≡ false
  apart_by a b t first other o found false test = refl
  apart_by a b t first other None found true test =
      let some = flow-some a t first in absurd (grind (arith, nat_tests, some, test))
  apart_by a b t first other (Some u) found true test =
      let equal : t.flow ≡ u.flow = grind (arith, nat_tests, test) in
      let same = same_flow a b t u first found equal in cc

  -- the flow of a tenant is not that of another name
  pub flows-apart : (a b : NameBytes) (t : TenantView) → find (is_tenant a) ts ≡ Some t → bytes_eq a b ≡ false
      → nat_eq t.flow (flow_by (find (is_tenant b) ts)) ≡ false
  flows-apart a b t first other =
      apart_by a b t first other (find (is_tenant b) ts) refl (nat_eq t.flow (flow_by (find (is_tenant b) ts))) refl
