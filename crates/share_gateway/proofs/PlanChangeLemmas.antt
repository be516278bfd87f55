-- A plan whose holds or amounts change stays in its limits.
use Rattle.std.specs.Prelude.{◌≡◌, ◌<◌, ◌≤◌, ◌+◌, ◌*◌, ℕ, zero, suc, Bool, true, false, find, is_some, List, [], ◌∷◌}
use Rattle.std.specs.Prelude.{length, map, sum_by, nat_le, nat_lt, if◌then◌else◌}
use Rattle.std.specs.List.{list_all}
use Rattle.std.proofs.Common.{refl, ap, sym, ◌∙◌, arith, get_or, slice_set}
use Rattle.std.proofs.lemmas.Bool.{cond_both, cond-true, cond-false}
use Rattle.std.proofs.lemmas.Bool.Decides.{nat_tests}
use Rattle.std.proofs.lemmas.List.{length-map}
use Rattle.std.proofs.lemmas.List.Sums.{sum_by-cons}
use Rattle.share_model.specs.funding.Graph.{NameBytes}
use Rattle.share_model.specs.lists.Change.{change_first}
use Rattle.share_model.proofs.lemmas.lists.FirstItemLemmas.{length-change_first, map-change_first}
use Rattle.share_gateway.specs.declared.plan.Grant.{Grant}
use Rattle.share_gateway.specs.PlanChanges.{is_tenant, held_as, with_hold, amend_at, currency_amended, tenant_amended}
use Rattle.share_gateway.specs.PlanChanges.{with_amount}
use Rattle.share_gateway.specs.Plan.{has_name}
use Rattle.share_gateway.specs.Plan.{PlanView, CurrencyView, TenantView, IsInLimits, ascends, are_flow_numbers}
use Rattle.share_gateway.specs.Plan.{flows_of}
use Rattle.share_gateway.proofs.OpeningLemmas.{both}

sum_kept : {A : Type 0} (f : A → ℕ) (p : A → Bool) (change : A → A) → ((x : A) → f (change x) ≡ f x) → (xs : List A)
    → sum_by f (change_first p change xs) ≡ sum_by f xs
unfolding change_first
sum_kept f p change keeps [] = refl
sum_kept f p change keeps (x ∷ xs) =
    cond_both (p x) (change x ∷ xs) (x ∷ change_first p change xs)
    (λ after. sum_by f after ≡ sum_by f (x ∷ xs))
    (λ _. sum_by-cons f (change x) xs ∙ ap (λ n. n + sum_by f xs) (keeps x) ∙ sym (sum_by-cons f x xs))
    (λ _. sum_by-cons f x (change_first p change xs)
    ∙ ap (λ n. f x + n) (sum_kept f p change keeps xs)
    ∙ sym (sum_by-cons f x xs))

pub limits-held : (name : NameBytes) (held : Bool) (p : PlanView) → IsInLimits p → IsInLimits (with_hold name held p)
limits-held name held p was = record {
  flows =
      ap are_flow_numbers (map-change_first (λ (t : TenantView). t.flow) (is_tenant name) (held_as held) (λ t. refl)
      p.tenants)
      ∙ was.flows;
  funding =
      ap (λ n. nat_le (length p.currencies + 2 * (sum_by (λ (c : CurrencyView). length c.grants) p.currencies + n))
      65536)
      (sum_kept (λ (t : TenantView). length t.grants) (is_tenant name) (held_as held) (λ t. refl) p.tenants)
      ∙ was.funding;
}

-- ---- The number of tenants

few_flows : (n : ℕ) (ms : List ℕ) → ascends n ms ≡ true → list_all (λ m. nat_le m 1024) ms ≡ true → n ≤ 1024
    → n + length ms ≤ 1024
few_flows n [] rising all few = omega (arith, few)
few_flows n (m ∷ ms) rising all few =
    let up = both (nat_lt n m) (ascends m ms) rising in
    let within = both (nat_le m 1024) (list_all (λ m. nat_le m 1024) ms) all in
    let more : n < m = grind (arith, nat_tests, up.0) in
    let below : m ≤ 1024 = grind (arith, nat_tests, within.0) in
    let rest = few_flows m ms up.1 within.1 below in omega (arith, more, rest)

pub few_tenants : (p : PlanView) → IsInLimits p → length p.tenants ≤ 1024
few_tenants p limits =
    let parts = both (ascends 0 (flows_of p.tenants)) (list_all (λ m. nat_le m 1024) (flows_of p.tenants))
    limits.flows in
    let few = few_flows 0 (flows_of p.tenants) parts.0 parts.1 (omega arith) in
    omega (arith, few, length-map p.tenants (λ (t : TenantView). t.flow))

-- ---- Amounts

length-amended : (index amount : ℕ) (gs : List Grant) → length (amend_at index amount gs) ≡ length gs
length-amended index amount [] = refl
length-amended zero amount (g ∷ gs) = refl
length-amended (suc index) amount (g ∷ gs) = ap suc (length-amended index amount gs)

module _ (name : NameBytes) (index amount : ℕ) (p : PlanView) (was : IsInLimits p) where
  pub limits-currency : IsInLimits (record p {
    currencies = change_first (has_name name) (currency_amended index amount) p.currencies;
  })
  limits-currency = record {
    flows = was.flows;
    funding =
        ap (λ n. nat_le (n + 2 * (sum_by (λ (c : CurrencyView). length c.grants)
        (change_first (has_name name) (currency_amended index amount) p.currencies)
        + sum_by (λ (t : TenantView). length t.grants) p.tenants)) 65536)
        (length-change_first (has_name name) (currency_amended index amount) p.currencies)
        ∙ ap (λ n. nat_le (length p.currencies + 2 * (n + sum_by (λ (t : TenantView). length t.grants) p.tenants))
        65536)
        (sum_kept (λ (c : CurrencyView). length c.grants) (has_name name) (currency_amended index amount)
        (λ c. length-amended index amount c.grants) p.currencies)
        ∙ was.funding;
  }

  pub limits-tenant : IsInLimits (record p {
    tenants = change_first (is_tenant name) (tenant_amended index amount) p.tenants;
  })
  limits-tenant = record {
    flows =
        ap are_flow_numbers (map-change_first (λ (t : TenantView). t.flow) (is_tenant name)
        (tenant_amended index amount)
        (λ t. refl) p.tenants)
        ∙ was.flows;
    funding =
        ap (λ n. nat_le (length p.currencies + 2 * (sum_by (λ (c : CurrencyView). length c.grants) p.currencies + n))
        65536)
        (sum_kept (λ (t : TenantView). length t.grants) (is_tenant name) (tenant_amended index amount)
        (λ t. length-amended index amount t.grants) p.tenants)
        ∙ was.funding;
  }

-- the grant of the index is set
pub amended-at : (index amount : ℕ) (gs : List Grant) (g : Grant) → index < length gs → g ≡ get_or gs index g
    → slice_set gs index (record g { amount = amount }) ≡ amend_at index amount gs
amended-at index amount [] g few is = absurd (omega (arith, few))
amended-at zero amount (h ∷ gs) g few is = ap (λ (g : Grant). record g { amount = amount } ∷ gs) is
amended-at (suc index) amount (h ∷ gs) g few is =
    ap (λ gs. h ∷ gs) (amended-at index amount gs g (omega (arith, few)) is)

pub unamended-at : (index amount : ℕ) (gs : List Grant) → length gs ≤ index → amend_at index amount gs ≡ gs
unamended-at index amount [] past = refl
unamended-at zero amount (g ∷ gs) past = absurd (omega (arith, past))
unamended-at (suc index) amount (g ∷ gs) past = ap (λ gs. g ∷ gs) (unamended-at index amount gs (omega (arith, past)))

-- a currency has the name, or the tenant of that name is amended
unnamed_in : {A : Type 0} (p : A → Bool) (change : A → A) (xs : List A) → is_some (find p xs) ≡ false
    → change_first p change xs ≡ xs
unfolding change_first
unnamed_in p change [] none = refl
unnamed_in {A} p change (x ∷ xs) none = by_test (p x) refl (unnamed_in p change xs)
  where
    by_test : (b : Bool) → p x ≡ b → (is_some (find p xs) ≡ false → change_first p change xs ≡ xs)
        → change_first p change (x ∷ xs) ≡ x ∷ xs
    by_test true is more = let found : is_some (find p (x ∷ xs)) ≡ true = rw is refl in cc
    by_test false is more =
        let rest : is_some (find p xs) ≡ false = rw is at none in rw is (ap (λ ys. x ∷ ys) (more rest))

pub unnamed : (name : NameBytes) (index amount : ℕ) (cs : List CurrencyView) → is_some (find (has_name name) cs) ≡ false
    → change_first (has_name name) (currency_amended index amount) cs ≡ cs
unnamed name index amount cs none = unnamed_in (has_name name) (currency_amended index amount) cs none

module _ (name : NameBytes) (index amount : ℕ) (p : PlanView) where
  pub amount-currency : (cs : List CurrencyView) → is_some (find (has_name name) p.currencies) ≡ true
      → cs ≡ change_first (has_name name) (currency_amended index amount) p.currencies
      → record { currencies = cs; tenants = p.tenants } ≡ with_amount name index amount p
  amount-currency cs found is =
      ap (λ cs. record { currencies = cs; tenants = p.tenants }) is
      ∙ sym (cond-true (is_some (find (has_name name) p.currencies)) _ _ found)

  pub amount-tenant : (cs : List CurrencyView) (ts : List TenantView)
      → is_some (find (has_name name) p.currencies) ≡ false
      → cs ≡ change_first (has_name name) (currency_amended index amount) p.currencies
      → ts ≡ change_first (is_tenant name) (tenant_amended index amount) p.tenants
      → record { currencies = cs; tenants = ts } ≡ with_amount name index amount p
  amount-tenant cs ts none is is_tenants =
      ap (λ cs. record { currencies = cs; tenants = ts }) (is ∙ unnamed name index amount p.currencies none)
      ∙ ap (λ ts. record { currencies = p.currencies; tenants = ts }) is_tenants
      ∙ sym (cond-false (is_some (find (has_name name) p.currencies)) _ _ none)
