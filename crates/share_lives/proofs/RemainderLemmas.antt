-- Remainders that are added, and what they count.
use Rattle.std.proofs.Common.{◌≡◌, ◌<◌, ◌≤◌, ◌⊎◌, ℕ, zero, suc, ◌+◌, ◌-◌, Bool, true, false, nat_lt, nat_le, List, []}
use Rattle.std.proofs.Common.{◌∷◌, ◌++◌, length, take, get_or, min, arith, refl, ap, sym, subst, ◌∙◌, append_assoc}
use Rattle.std.proofs.Common.{length-append, length-take, inl, inr}
use Rattle.std.specs.Prelude.{find, flat_map, bytes_eq, Contains, Option, None, Some, if◌then◌else◌}
use Rattle.std.proofs.lemmas.Bool.{cond-true, cond-false, ltb-true, ltb-false, leb-true, leb-false}
use Rattle.std.proofs.lemmas.Bool.Decides.{nat_tests}
use Rattle.std.proofs.lemmas.Grind.{flat_map-append}
use Rattle.std.proofs.lemmas.List.{append-nil, take_all, take_at, take-take, take_more}
use Rattle.std.proofs.lemmas.List.Elements.{Contains-append_left, Contains-append_right}
use Rattle.share_model.specs.funding.Graph.{NameBytes}
use Rattle.share_model.specs.link.Buffers.{Buffer, buffer_of, count_by, count_in}
use Rattle.share_model.proofs.lemmas.lists.SumLemmas.{same_name}
use Rattle.share_gateway.specs.Plan.{TenantView}
use Rattle.share_gateway.specs.PlanChanges.{is_tenant, flow_by}
use Rattle.share_book.specs.Carry.{left_for, packets_by}
use Rattle.share_book.specs.Closed.{ClosedView}
use Rattle.share_lives.specs.LifeHistory.{CountsTenants}
use Rattle.share_lives.specs.Remainders.{Gains, remainder_of, remainders_of, tenant_remainder}
use Rattle.share_lives.specs.declared.remainder.Remainder.{Remainder}

-- ---- Adding

pub gains-none : (old : List Remainder) → Gains old [] old
gains-none old = record {
  all = λ few. sym (append-nil old);
  stay = take_all (length old) old (omega arith);
  most = λ many. omega arith;
}

-- a push succeeds while fewer than 64 are there
pub gains-pushed : (old new : List Remainder) (r : Remainder) (ok : Bool)
    → new ≡ (if ok then old ++ r ∷ [] else old) → (length old < 64 → ok ≡ true) → Gains old (r ∷ []) new
gains-pushed old new r true is has =
    let size : length new ≡ length old + 1 = ap length is ∙ length-append old (r ∷ []) in
    record {
      all = λ few. is;
      stay = ap (take (length old)) is ∙ take_at old (r ∷ []) (length old) refl;
      most = λ many. omega (arith, size, many);
    }
gains-pushed old new r false is has =
    let full : (b : Bool) → nat_lt (length old) 64 ≡ b → 64 ≤ length old =
    λ b. elim b as (λ b. nat_lt (length old) 64 ≡ b → 64 ≤ length old) [
      | true ↦ λ test. let not = has (ltb-true (length old) 64 test) in cc
      | false ↦ λ test. ltb-false (length old) 64 test
    ] in
    let many : 64 ≤ length old = full (nat_lt (length old) 64) refl in
    let size : length new ≡ length old = ap length is in
    record {
      all = λ few. absurd (omega (arith, few, many));
      stay = ap (take (length old)) is ∙ take_all (length old) old (omega arith);
      most = λ more. omega (arith, size, many);
    }

record Longer (old new : List Remainder) : Type 0 where
  longer : length old ≤ length new

longer_by : (old new : List Remainder) → take (length old) new ≡ old → Longer old new
longer_by old new stay =
    let size : min (length old) (length new) ≡ length old = sym (length-take (length old) new) ∙ ap length stay in
    record { longer = omega (arith, size) }

-- some are added after others
pub gains-then : (old more mid rest new : List Remainder) → Gains old more mid → Gains mid rest new
    → Gains old (more ++ rest) new
gains-then old more mid rest new first second =
    let size = length-append more rest in
    let mid_longer = (longer_by old mid first.stay).longer in
    let new_longer = (longer_by mid new second.stay).longer in
    let most_by : (b : Bool) → nat_le (length old + length more) 64 ≡ b
    → 64 < length old + length (more ++ rest) → 64 ≤ length new =
    λ b. elim b as (λ b. nat_le (length old + length more) 64 ≡ b → 64 < length old + length (more ++ rest)
    → 64 ≤ length new) [
      | true ↦ λ test many.
          let is = ap length (first.all (leb-true (length old + length more) 64 test)) ∙ length-append old more in
          second.most (omega (arith, size, is, many))
      | false ↦ λ test many.
          let above = leb-false (length old + length more) 64 test in
          let full = first.most (omega (arith, above)) in omega (arith, full, new_longer)
    ] in
    record {
      all = λ few.
          let here = first.all (omega (arith, size, few)) in
          let long = ap length here ∙ length-append old more in
          second.all (omega (arith, size, few, long)) ∙ ap (λ rs. rs ++ rest) here ∙ append_assoc old more rest;
      stay =
          sym (take-take (length old) (length mid) new mid_longer) ∙ ap (take (length old)) second.stay ∙ first.stay;
      most = most_by (nat_le (length old + length more) 64) refl;
    }

-- the packets of the next tenant are added
pub gains-tenant : (bs : List Buffer) (ts : List TenantView) (i : ℕ) (t : TenantView) → i < length ts
    → get_or ts i t ≡ t → (old mid new : List Remainder) → Gains old (flat_map (tenant_remainder bs) (take i ts)) mid
    → Gains mid (tenant_remainder bs t) new → Gains old (flat_map (tenant_remainder bs) (take (i + 1) ts)) new
gains-tenant bs ts i t within is old mid new first second =
    let all : flat_map (tenant_remainder bs) (take (i + 1) ts)
    ≡ flat_map (tenant_remainder bs) (take i ts) ++ tenant_remainder bs t =
    ap (flat_map (tenant_remainder bs)) (take_more ts i t within)
    ∙ flat_map-append (tenant_remainder bs) (take i ts) (get_or ts i t ∷ [])
    ∙ ap (λ rs. flat_map (tenant_remainder bs) (take i ts) ++ rs)
    (append-nil (tenant_remainder bs (get_or ts i t)) ∙ ap (tenant_remainder bs) is) in
    subst (λ rs. Gains old rs new) (sym all)
    (gains-then old (flat_map (tenant_remainder bs) (take i ts)) mid (tenant_remainder bs t) new first second)

-- ---- Counting

length_packets : (o : Option Buffer) → count_by o ≡ length (packets_by o)
length_packets None = refl
length_packets (Some b) = refl

one_of : (name : NameBytes) (n : ℕ) (b : Bool) → 0 < n → nat_lt 0 n ≡ b
    → Contains (remainder_of name n) (record { tenant = name; packets = n })
one_of name n true some test =
    subst (λ rs. Contains rs (record { tenant = name; packets = n }))
    (sym (cond-true (nat_lt 0 n) (record { tenant = name; packets = n } ∷ []) [] test)) (0, omega arith, refl)
one_of name n false some test = absurd (omega (arith, some, ltb-false 0 n test))

counts_head : (bs : List Buffer) (name : NameBytes) (t u : TenantView) (us : List TenantView) (r : Remainder)
    → r ≡ record { tenant = name; packets = count_in bs t.flow } → 0 < count_in bs t.flow → (b : Bool)
    → bytes_eq name u.name ≡ b → (if b then Some u else find (is_tenant name) us) ≡ Some t
    → (find (is_tenant name) us ≡ Some t → Contains (flat_map (tenant_remainder bs) us) r)
    → Contains (tenant_remainder bs u ++ flat_map (tenant_remainder bs) us) r
counts_head bs name t u us r is some true test found rest =
    let same : u ≡ t = cc in
    let named : name ≡ u.name = same_name name u.name test in
    let here : Contains (remainder_of name (count_in bs t.flow)) r =
    subst (Contains (remainder_of name (count_in bs t.flow))) (sym is)
    (one_of name (count_in bs t.flow) (nat_lt 0 (count_in bs t.flow)) some refl) in
    Contains-append_left (tenant_remainder bs u) (flat_map (tenant_remainder bs) us) r
    (subst (λ (name : NameBytes). Contains (remainder_of name (count_in bs u.flow)) r) named
    (subst (λ (u : TenantView). Contains (remainder_of name (count_in bs u.flow)) r) (sym same) here))
counts_head bs name t u us r is some false test found rest =
    Contains-append_right (tenant_remainder bs u) (flat_map (tenant_remainder bs) us) r (rest found)

counts_in : (bs : List Buffer) (name : NameBytes) (t : TenantView) (ts : List TenantView)
    → find (is_tenant name) ts ≡ Some t → 0 < count_in bs t.flow
    → Contains (flat_map (tenant_remainder bs) ts) (record { tenant = name; packets = count_in bs t.flow })
counts_in bs name t [] found some = cc
counts_in bs name t (u ∷ us) found some =
    counts_head bs name t u us (record { tenant = name; packets = count_in bs t.flow }) refl some
    (bytes_eq name u.name) refl found (λ rest. counts_in bs name t us rest some)

pub counts-tenants : (c : ClosedView) → CountsTenants c
counts-tenants c = record {
  counted = λ name t found some.
      let flow : flow_by (find (is_tenant name) c.plan.tenants) ≡ t.flow = ap flow_by found in
      let size : count_in c.buffers t.flow ≡ length (left_for c name) =
      ap (count_in c.buffers) (sym flow)
      ∙ length_packets (buffer_of c.buffers (flow_by (find (is_tenant name) c.plan.tenants))) in
      subst (λ n. Contains (remainders_of c) (record { tenant = name; packets = n })) size
      (counts_in c.buffers name t c.plan.tenants found (omega (arith, some, size)));
}
