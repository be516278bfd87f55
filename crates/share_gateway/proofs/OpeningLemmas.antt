-- The opening of a plan, section by section.
use Rattle.std.specs.Prelude.{◌≡◌, ◌<◌, ◌≤◌, ℕ, zero, suc, ◌+◌, ◌-◌, ◌^◌, Bool, true, false, ◌&&◌, List, [], ◌∷◌, ◌++◌}
use Rattle.std.specs.Prelude.{map, flat_map, find, length, drop, max, option_map, nat_eq, nat_le, nat_lt, sum_by}
use Rattle.std.specs.Prelude.{slice_get, None}
use Rattle.std.specs.Prelude.{Some}
use Rattle.std.specs.List.{enumerate_from, range_with_len, list_all}
use Rattle.std.proofs.Common.{get_or, refl, ap, sym, ◌∙◌, arith, add-one, append_assoc, length-append}
use Rattle.std.proofs.lemmas.List.{length-map}
use Rattle.std.proofs.lemmas.List.Sums.{sum_by-cons}
use Rattle.std.proofs.lemmas.List.Concat.{flat_map-append}
use Rattle.std.proofs.lemmas.List.FromFn.{length-enumerate_from}
use Rattle.std.proofs.lemmas.Option.{same_Some, slice_get-get_or}
use Rattle.std.proofs.lemmas.Bool.Decides.{nat_tests}
use Rattle.share_model.specs.lists.Each.{Each}
use Rattle.share_gateway.specs.declared.plan.Grant.{Grant}
use Rattle.share_gateway.specs.declared.plan.Entry.TheVariants.{Tenant}
use Rattle.share_gateway.specs.declared.openings.Found.{Found}
use Rattle.share_gateway.specs.declared.openings.GrantCursor.{GrantCursor}
use Rattle.share_gateway.specs.declared.openings.Group.{Group}
use Rattle.share_gateway.specs.declared.openings.PlanCommand.{PlanCommand}
use Rattle.share_gateway.specs.Plan.{CurrencyView, TenantView, PlanView, IsInLimits, are_flow_numbers, flows_of}
use Rattle.share_gateway.specs.Plan.{ascends}
use Rattle.share_gateway.specs.Plan.{greatest_flow, grants_in, funding_commands}
use Rattle.share_gateway.specs.Opening.{numbered, make_command, reaches, number_by, number_commands, flow_commands}
use Rattle.share_gateway.specs.Opening.{open_command, gap_commands, Grantee, to_currency, to_tenant, grantees}
use Rattle.share_gateway.specs.Opening.{grants_to}
use Rattle.share_gateway.specs.Opening.{grant_to, all_grants_to, all_grants, grant_commands, hold_commands}
use Rattle.share_gateway.specs.Opening.{opening}
use Rattle.share_gateway.specs.OpeningLeft.{gap_list, flows_from, grants_from, grants_after, grants_left, holds_left}
use Rattle.share_gateway.specs.OpeningLeft.{currencies_left, group_list, flows_left, FindsGrant, NumbersFit, seen}

-- Lists

drop_suc : {A : Type 0} (xs : List A) (i : ℕ) (x : A) → slice_get xs i ≡ Some x → drop i xs ≡ x ∷ drop (suc i) xs
drop_suc [] i x e = cc
drop_suc (y ∷ xs) zero x e = ap (λ z. z ∷ xs) (same_Some y x e)
drop_suc (y ∷ xs) (suc i) x e = drop_suc xs i x e

-- the item of an index, and those after it
pub drop-get : {A : Type 0} (xs : List A) (i : ℕ) (x : A) → slice_get xs i ≡ Some x → drop i xs ≡ x ∷ drop (i + 1) xs
drop-get xs i x e = drop_suc xs i x e ∙ ap (λ n. x ∷ drop n xs) (sym (add-one i))

pub drop-none : {A : Type 0} (xs : List A) (i : ℕ) → slice_get xs i ≡ None → drop i xs ≡ []
drop-none [] zero e = refl
drop-none [] (suc i) e = refl
drop-none (x ∷ xs) zero e = cc
drop-none (x ∷ xs) (suc i) e = drop-none xs i e

pub drop-past : {A : Type 0} (xs : List A) (i : ℕ) → length xs ≤ i → drop i xs ≡ []
drop-past [] zero few = refl
drop-past [] (suc i) few = refl
drop-past (x ∷ xs) zero few = absurd (omega (arith, few))
drop-past (x ∷ xs) (suc i) few = drop-past xs i (omega (arith, few))

pub numbered-get : {A : Type 0} (n : ℕ) (xs : List A) (i : ℕ) (x : A) → slice_get xs i ≡ Some x
    → slice_get (enumerate_from n xs) i ≡ Some (n + i, x)
numbered-get n [] i x e = cc
numbered-get n (y ∷ xs) zero x e =
    let here : n ≡ n + 0 = omega arith in ap (λ k. Some (k, y)) here ∙ ap (λ z. Some (n + 0, z)) (same_Some y x e)
numbered-get n (y ∷ xs) (suc i) x e =
    let there : n + 1 + i ≡ n + suc i = omega arith in
    numbered-get (n + 1) xs i x e ∙ ap (λ k. Some (k, x)) there

get_map : {A B : Type 0} (f : A → B) (xs : List A) (i : ℕ) (x : A) → slice_get xs i ≡ Some x
    → slice_get (map f xs) i ≡ Some (f x)
get_map f [] i x e = cc
get_map f (y ∷ xs) zero x e = ap (λ z. Some (f z)) (same_Some y x e)
get_map f (y ∷ xs) (suc i) x e = get_map f xs i x e

-- an item with its number
pub get-numbered : {A B : Type 0} (f : ℕ × A → B) (xs : List A) (i : ℕ) (x : A) → slice_get xs i ≡ Some x
    → slice_get (map f (numbered xs)) i ≡ Some (f (i + 1, x))
get-numbered f xs i x e =
    get_map f (numbered xs) i (1 + i, x) (numbered-get 1 xs i x e)
    ∙ (let same : 1 + i ≡ i + 1 = omega arith in ap (λ k. Some (f (k, x))) same)

pub get-front : {A : Type 0} (xs ys : List A) (i : ℕ) (x : A) → slice_get xs i ≡ Some x
    → slice_get (xs ++ ys) i ≡ Some x
get-front [] ys i x e = cc
get-front (y ∷ xs) ys zero x e = e
get-front (y ∷ xs) ys (suc i) x e = get-front xs ys i x e

pub get-back : {A : Type 0} (xs ys : List A) (i : ℕ) (x : A) → slice_get ys i ≡ Some x
    → slice_get (xs ++ ys) (length xs + i) ≡ Some x
get-back [] ys i x e = let none : 0 + i ≡ i = omega arith in ap (slice_get ys) none ∙ e
get-back (y ∷ xs) ys i x e =
    let one : suc (length xs) + i ≡ suc (length xs + i) = omega arith in
    ap (slice_get (y ∷ (xs ++ ys))) one ∙ get-back xs ys i x e

-- Flows

-- tenants whose flow numbers are at most m
IsPassed : ℕ → ℕ × TenantView → Type 0
IsPassed m t = t.1.flow ≤ m

find_passed : (m k : ℕ) (before after : List (ℕ × TenantView)) → Each (λ t. t.1.flow ≤ m) before → m < k
    → find (reaches k) (before ++ after) ≡ find (reaches k) after
find_passed m k [] after passed more = refl
find_passed m k (t ∷ before) after passed more =
    let low : nat_le k t.1.flow ≡ false = grind (arith, nat_tests, passed.0, more) in
    rw low (find_passed m k before after passed.1 more)

range_append : (a m n : ℕ) → range_with_len a (m + n) ≡ range_with_len a m ++ range_with_len (a + m) n
range_append a zero n =
    let none : 0 + n ≡ n = omega arith in
    let e : a ≡ a + 0 = omega arith in
    ap (range_with_len a) none ∙ ap (λ b. range_with_len b n) e
range_append a (suc m) n =
    let e : a + 1 + m ≡ a + suc m = omega arith in
    let one : suc m + n ≡ suc (m + n) = omega arith in
    ap (range_with_len a) one
    ∙ ap (λ ns. a ∷ ns) (range_append (a + 1) m n ∙ ap (λ b. range_with_len (a + 1) m ++ range_with_len b n) e)

-- the commands that the tenants give for a flow number
made_of : List (ℕ × TenantView) → ℕ → List PlanCommand
made_of ts k = number_by k (find (reaches k) ts)

module _ (m i : ℕ) (t : TenantView) (before after : List (ℕ × TenantView)) (passed : Each (λ t. t.1.flow ≤ m) before)
  where
    found_next : (k : ℕ) → m < k → k ≤ t.flow → find (reaches k) (before ++ (i, t) ∷ after) ≡ Some (i, t)
    found_next k more few =
        let here : nat_le k t.flow ≡ true = grind (arith, nat_tests, few) in
        find_passed m k before ((i, t) ∷ after) passed more ∙ rw here refl

    gaps_before : (a n : ℕ) → m < a → a + n ≤ t.flow
        → flat_map (made_of (before ++ (i, t) ∷ after)) (range_with_len a n) ≡ gap_list (Tenant i) n
    unfolding made_of
    gaps_before a zero more few = refl
    gaps_before a (suc n) more few =
        let other : nat_eq a t.flow ≡ false = grind (arith, nat_tests, few) in
        let first : number_by a (find (reaches a) (before ++ (i, t) ∷ after)) ≡ gap_commands (Tenant i) =
        ap (number_by a) (found_next a more (omega (arith, few))) ∙ rw other refl in
        rw (first, gaps_before (a + 1) n (omega (arith, more)) (omega (arith, few))) refl

    opens_own : m < t.flow → made_of (before ++ (i, t) ∷ after) t.flow ≡ open_command (i, t) ∷ []
    unfolding made_of
    opens_own more =
        let own : nat_eq t.flow t.flow ≡ true = grind (arith, nat_tests) in
        ap (number_by t.flow) (found_next t.flow more (omega arith)) ∙ rw own refl

each_passed : (m n : ℕ) (ts : List (ℕ × TenantView)) → m ≤ n → Each (λ t. t.1.flow ≤ m) ts → Each (λ t. t.1.flow ≤ n) ts
each_passed m n [] le passed = tt
each_passed m n (t ∷ ts) le passed = (omega (arith, le, passed.0), each_passed m n ts le passed.1)

passed_next : (i n : ℕ) (t : TenantView) (ts : List (ℕ × TenantView)) → t.flow ≤ n → Each (λ t. t.1.flow ≤ n) ts
    → Each (λ t. t.1.flow ≤ n) (ts ++ (i, t) ∷ [])
passed_next i n t [] low passed = (low, tt)
passed_next i n t (u ∷ ts) low passed = (passed.0, passed_next i n t ts low passed.1)

pub both : (a b : Bool) → (a && b) ≡ true → (a ≡ true) × (b ≡ true)
both true true e = (refl, refl)
both true false e = cc
both false b e = cc

pub ascends-past : (m : ℕ) (t : TenantView) (ts : List TenantView) → ascends m (flows_of (t ∷ ts)) ≡ true
    → (m < t.flow) × (ascends t.flow (flows_of ts) ≡ true)
ascends-past m t ts e =
    let parts = both (nat_lt m t.flow) (ascends t.flow (flows_of ts)) e in
    let more : nat_lt m t.flow ≡ true = parts.0 in
    (grind (arith, nat_tests, more), parts.1)

-- the numbers above m, up to the greatest, make what the tenants make one after another
flows_by_number : (m i : ℕ) (before : List (ℕ × TenantView)) (ts : List TenantView)
    → Each (λ t. t.1.flow ≤ m) before → ascends m (flows_of ts) ≡ true
    → flat_map (made_of (before ++ enumerate_from i ts)) (range_with_len (m + 1) (greatest_flow ts - m))
    ≡ flows_from i (m + 1) ts
flows_by_number m i before [] passed ascend =
    let none : 0 - m ≡ 0 = omega arith in
    ap (λ n. flat_map (made_of (before ++ [])) (range_with_len (m + 1) n)) none
flows_by_number m i before (t ∷ ts) passed ascend =
    let past = ascends-past m t ts ascend in
    let f = t.flow in
    let g = greatest_flow ts in
    let whole = before ++ (i, t) ∷ enumerate_from (i + 1) ts in
    let after : List (ℕ × TenantView) = enumerate_from (i + 1) ts in
    let size : max f g - m ≡ (f - (m + 1)) + (1 + (g - f)) = omega (arith, past.0) in
    let more : 1 + (g - f) ≡ suc (g - f) = omega arith in
    let own : m + 1 + (f - (m + 1)) ≡ f = omega (arith, past.0) in
    let last : List ℕ = range_with_len (f + 1) (g - f) in
    let numbers : range_with_len (m + 1) (max f g - m) ≡ range_with_len (m + 1) (f - (m + 1)) ++ f ∷ last =
    ap (range_with_len (m + 1)) size
    ∙ range_append (m + 1) (f - (m + 1)) (1 + (g - f))
    ∙ ap (λ a. range_with_len (m + 1) (f - (m + 1)) ++ range_with_len a (1 + (g - f))) own
    ∙ ap (λ n. range_with_len (m + 1) (f - (m + 1)) ++ range_with_len f n) more in
    let front = gaps_before m i t before after passed (m + 1) (f - (m + 1)) (omega arith) (omega (arith, past.0)) in
    let here = opens_own m i t before after passed past.0 in
    let rest : flat_map (made_of whole) last ≡ flows_from (i + 1) (f + 1) ts =
    ap (λ all. flat_map (made_of all) last) (sym (append_assoc before ((i, t) ∷ []) after))
    ∙ flows_by_number f (i + 1) (before ++ (i, t) ∷ []) ts
    (passed_next i f t before (omega arith) (each_passed m f before (omega (arith, past.0)) passed)) past.1 in
    ap (flat_map (made_of whole)) numbers
    ∙ flat_map-append (made_of whole) (range_with_len (m + 1) (f - (m + 1))) (f ∷ last)
    ∙ rw (front, here, rest) refl

flow_from : (ts : List TenantView) (i : ℕ) (t : TenantView) → list_all (λ n. nat_le n 1024) (flows_of ts) ≡ true
    → slice_get ts i ≡ Some t → t.flow ≤ 1024
flow_from [] i t all is = cc
flow_from (u ∷ ts) zero t all is =
    let parts = both (nat_le u.flow 1024) (list_all (λ n. nat_le n 1024) (flows_of ts)) all in
    let same : u.flow ≡ t.flow = ap (λ (v : TenantView). v.flow) (same_Some u t is) in
    let few : u.flow ≤ 1024 = grind (arith, nat_tests, parts.0) in
    omega (arith, same, few)
flow_from (u ∷ ts) (suc i) t all is =
    flow_from ts i t (both (nat_le u.flow 1024) (list_all (λ n. nat_le n 1024) (flows_of ts)) all).1 is

-- a flow number is at most 1024
pub flow-within : (p : PlanView) (i : ℕ) (t : TenantView) → IsInLimits p → slice_get p.tenants i ≡ Some t
    → t.flow ≤ 1024
flow-within p i t limits is =
    flow_from p.tenants i t
    (both (ascends 0 (flows_of p.tenants)) (list_all (λ n. nat_le n 1024) (flows_of p.tenants)) limits.flows).1 is

-- the tenants open their flows one after another, with a gap for each number between
pub flows-one-by-one : (ts : List TenantView) → are_flow_numbers (flows_of ts) ≡ true
    → flow_commands ts ≡ flows_from 1 1 ts
unfolding made_of
flows-one-by-one ts are =
    let parts = both (ascends 0 (flows_of ts)) (list_all (λ n. nat_le n 1024) (flows_of ts)) are in
    let all : greatest_flow ts ≡ greatest_flow ts - 0 = omega arith in
    ap (λ n. flat_map (number_commands ts) (range_with_len 1 n)) all
    ∙ flows_by_number 0 1 [] ts tt parts.0

-- the next flow number is one that no tenant has
pub flows-gap : (i n : ℕ) (t : TenantView) (ts : List TenantView) → n < t.flow
    → flows_from i n (t ∷ ts) ≡ gap_commands (Tenant i) ++ flows_from i (n + 1) (t ∷ ts)
flows-gap i n t ts more =
    let size : t.flow - n ≡ suc (t.flow - (n + 1)) = omega (arith, more) in
    ap (λ k. gap_list (Tenant i) k ++ open_command (i, t) ∷ flows_from (i + 1) (t.flow + 1) ts) size

-- the next flow number is the tenant's own
pub flows-own : (i n : ℕ) (t : TenantView) (ts : List TenantView) → t.flow ≤ n
    → flows_from i n (t ∷ ts) ≡ open_command (i, t) ∷ flows_from (i + 1) (t.flow + 1) ts
flows-own i n t ts less =
    let size : t.flow - n ≡ 0 = omega (arith, less) in
    ap (λ k. gap_list (Tenant i) k ++ open_command (i, t) ∷ flows_from (i + 1) (t.flow + 1) ts) size

-- Grants

pub grants-all : (tos : List Grantee) → grants_from 0 tos ≡ flat_map all_grants_to tos
grants-all [] = refl
grants-all (to ∷ tos) = refl

-- the grant at an index, and those after it
pub grants-next : (p : PlanView) (index grant : ℕ) (to : Grantee) (g : Grant) → slice_get (grantees p) index ≡ Some to
    → slice_get (grants_to to) grant ≡ Some g
    → grants_after p index grant ≡ grant_to to (grant + 1, g) ∷ grants_after p index (grant + 1)
grants-next p index grant to g at is =
    let others = flat_map all_grants_to (drop (index + 1) (grantees p)) in
    let these = drop-get (grantees p) index to at in
    let first = drop-get (all_grants_to to) grant (grant_to to (grant + 1, g))
    (get-numbered (grant_to to) (grants_to to) grant g is) in
    rw these (ap (λ gs. gs ++ others) first)

-- a grantee has no grant left
pub grants-past : (p : PlanView) (index grant : ℕ) (to : Grantee) → slice_get (grantees p) index ≡ Some to
    → length (grants_to to) ≤ grant → grants_after p index grant ≡ grants_after p (index + 1) 0
grants-past p index grant to at few =
    let others = flat_map all_grants_to (drop (index + 1) (grantees p)) in
    let size : length (all_grants_to to) ≤ grant =
    rw (length-map (numbered (grants_to to)) (grant_to to), length-enumerate_from 1 (grants_to to)) few in
    let none : drop grant (all_grants_to to) ≡ [] = drop-past (all_grants_to to) grant size in
    ap (grants_from grant) (drop-get (grantees p) index to at)
    ∙ ap (λ gs. gs ++ others) none
    ∙ sym (grants-all (drop (index + 1) (grantees p)))

pub length-grantees : (p : PlanView) → length (grantees p) ≡ length p.currencies + length p.tenants
length-grantees p =
    length-append (map to_currency (numbered p.currencies)) (map to_tenant (numbered p.tenants))
    ∙ rw (
      length-map (numbered p.currencies) to_currency,
      length-map (numbered p.tenants) to_tenant,
      length-enumerate_from 1 p.currencies,
      length-enumerate_from 1 p.tenants,
    ) refl

pub grantee-currency : (p : PlanView) (i : ℕ) (c : CurrencyView) → slice_get p.currencies i ≡ Some c
    → slice_get (grantees p) i ≡ Some (to_currency (i + 1, c))
grantee-currency p i c is =
    get-front (map to_currency (numbered p.currencies)) (map to_tenant (numbered p.tenants)) i (to_currency (i + 1, c))
    (get-numbered to_currency p.currencies i c is)

pub grantee-tenant : (p : PlanView) (i : ℕ) (t : TenantView) → slice_get p.tenants i ≡ Some t
    → slice_get (grantees p) (length p.currencies + i) ≡ Some (to_tenant (i + 1, t))
grantee-tenant p i t is =
    let front = map to_currency (numbered p.currencies) in
    let size : length front ≡ length p.currencies =
    length-map (numbered p.currencies) to_currency ∙ length-enumerate_from 1 p.currencies in
    ap (λ n. slice_get (grantees p) (n + i)) (sym size)
    ∙ get-back front (map to_tenant (numbered p.tenants)) i (to_tenant (i + 1, t))
    (get-numbered to_tenant p.tenants i t is)

mapped_get : {A B : Type 0} (f : A → B) (xs : List A) (i : ℕ) (y : B) → option_map f (slice_get xs i) ≡ Some y
    → (x : A) × (slice_get xs i ≡ Some x) × (f x ≡ y)
mapped_get f [] i y is = cc
mapped_get f (x ∷ xs) zero y is = (x, refl, same_Some (f x) y is)
mapped_get f (x ∷ xs) (suc i) y is = mapped_get f xs i y is

pub grantee-mapped : (p : PlanView) (index : ℕ) (to : Grantee) → length p.currencies ≤ index
    → option_map (λ t. to_tenant (index - length p.currencies + 1, t))
    (slice_get p.tenants (index - length p.currencies))
    ≡ Some to
    → slice_get (grantees p) index ≡ Some to
grantee-mapped p index to past is =
    let place = index - length p.currencies in
    let whole : length p.currencies + place ≡ index = omega (arith, past) in
    let found = mapped_get (λ t. to_tenant (place + 1, t)) p.tenants place to is in
    ap (slice_get (grantees p)) (sym whole) ∙ grantee-tenant p place found.0 found.1 ∙ ap Some found.2

length_all_to : (to : Grantee) → length (all_grants_to to) ≡ length (grants_to to)
length_all_to to = length-map (numbered (grants_to to)) (grant_to to) ∙ length-enumerate_from 1 (grants_to to)

length_to_currencies : (n : ℕ) (cs : List CurrencyView)
    → length (flat_map all_grants_to (map to_currency (enumerate_from n cs)))
    ≡ sum_by (λ (c : CurrencyView). length c.grants) cs
length_to_currencies n [] = refl
length_to_currencies n (c ∷ cs) =
    length-append (all_grants_to (to_currency (n, c)))
    (flat_map all_grants_to (map to_currency (enumerate_from (n + 1) cs)))
    ∙ rw (length_all_to (to_currency (n, c)), length_to_currencies (n + 1) cs)
    (sym (sum_by-cons (λ (c : CurrencyView). length c.grants) c cs))

length_to_tenants : (n : ℕ) (ts : List TenantView)
    → length (flat_map all_grants_to (map to_tenant (enumerate_from n ts)))
    ≡ sum_by (λ (t : TenantView). length t.grants) ts
length_to_tenants n [] = refl
length_to_tenants n (t ∷ ts) =
    length-append (all_grants_to (to_tenant (n, t)))
    (flat_map all_grants_to (map to_tenant (enumerate_from (n + 1) ts)))
    ∙ rw (length_all_to (to_tenant (n, t)), length_to_tenants (n + 1) ts)
    (sym (sum_by-cons (λ (t : TenantView). length t.grants) t ts))

pub length-all_grants : (p : PlanView) → length (all_grants p) ≡ grants_in p
length-all_grants p =
    let cs = map to_currency (numbered p.currencies) in
    let ts = map to_tenant (numbered p.tenants) in
    ap length (flat_map-append all_grants_to cs ts)
    ∙ length-append (flat_map all_grants_to cs) (flat_map all_grants_to ts)
    ∙ rw (length_to_currencies 1 p.currencies, length_to_tenants 1 p.tenants) refl

-- The whole opening, as what is left of it at the start

pub opening-left : (p : PlanView) → IsInLimits p
    → opening p
    ≡ currencies_left p 0
    ++ (flows_from 1 1 p.tenants
    ++ (grants_left p (record { grantee = 0; grant = 0; ticket = 1 }) ++ holds_left p 0))
opening-left p limits =
    let made = map make_command (numbered p.currencies) in
    let flows = flow_commands p.tenants in
    let grants = flat_map grant_commands (numbered (all_grants p)) in
    let holds = flat_map hold_commands (numbered p.tenants) in
    append_assoc (made ++ flows) grants holds
    ∙ append_assoc made flows (grants ++ holds)
    ∙ (let one = flows-one-by-one p.tenants limits.flows in
    let all = grants-all (grantees p) in
    rw (one, all) refl)

pub numbers-fit : (p : PlanView) → IsInLimits p → 1 + length (grants_after p 0 0) < 2 ^ 32
numbers-fit p limits =
    let few : funding_commands p ≤ 65536 = grind (arith, nat_tests, limits.funding) in
    let all : length (grants_after p 0 0) ≡ grants_in p = ap length (grants-all (grantees p)) ∙ length-all_grants p in
    omega (arith, few, all)

-- the effect of a call of the cursor

pub get-item : {A : Type 0} (xs : List A) (i : ℕ) (x : A) → i < length xs → x ≡ get_or xs i x → slice_get xs i ≡ Some x
get-item xs i x within is = slice_get-get_or xs i x within ∙ ap Some (sym is)

pub left-gap : (p : PlanView) (i n : ℕ) (t : TenantView) (group : Group) → slice_get p.tenants i ≡ Some t → n < t.flow
    → group_list group ≡ gap_commands (Tenant (i + 1))
    → flows_left p (record { number = n; tenant = i })
    ≡ group_list group ++ flows_left p (record { number = n + 1; tenant = i })
left-gap p i n t group is more group_is =
    let rest = drop (i + 1) p.tenants in
    let these = drop-get p.tenants i t is in
    ap (flows_from (i + 1) n) these
    ∙ flows-gap (i + 1) n t rest more
    ∙ ap (λ (cs : List PlanCommand). cs ++ flows_from (i + 1) (n + 1) (t ∷ rest)) (sym group_is)
    ∙ ap (λ ts. group_list group ++ flows_from (i + 1) (n + 1) ts) (sym these)

pub left-grant : (p : PlanView) (cursor : GrantCursor) (found : Found) (g : Grant) (group : Group)
    → FindsGrant p cursor.grantee cursor.grant found
    → slice_get (grants_to (seen found.grantee)) found.grant ≡ Some g
    → group_list group ≡ grant_commands (cursor.ticket, grant_to (seen found.grantee) (found.grant + 1, g))
    → grants_left p cursor
    ≡ group_list group
    ++ grants_left p (record { grantee = found.index; grant = found.grant + 1; ticket = cursor.ticket + 1 })
left-grant p cursor found g group finds is group_is =
    let next = grants-next p found.index found.grant (seen found.grantee) g finds.stands is in
    let later = grants_after p found.index (found.grant + 1) in
    ap (λ gs. flat_map grant_commands (enumerate_from cursor.ticket gs)) (finds.same ∙ next)
    ∙ ap (λ (cs : List PlanCommand). cs ++ flat_map grant_commands (enumerate_from (cursor.ticket + 1) later))
    (sym group_is)

pub fit-grant : (p : PlanView) (cursor : GrantCursor) (found : Found) (g : Grant)
    → FindsGrant p cursor.grantee cursor.grant found
    → slice_get (grants_to (seen found.grantee)) found.grant ≡ Some g → NumbersFit p cursor
    → cursor.ticket + 1 + length (grants_after p found.index (found.grant + 1)) < 2 ^ 32
fit-grant p cursor found g finds is fit =
    let size : length (grants_after p cursor.grantee cursor.grant)
    ≡ suc (length (grants_after p found.index (found.grant + 1))) =
    ap length (finds.same ∙ grants-next p found.index found.grant (seen found.grantee) g finds.stands is) in
    omega (arith, size, fit)
