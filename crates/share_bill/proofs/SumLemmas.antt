-- The traffic of each flow.
use Rattle.std.specs.Prelude.{◌≡◌, ◌<◌, ◌≤◌, ◌^◌, ℕ, zero, suc, Bool, true, false, List, [], ◌∷◌, ◌++◌, length}
use Rattle.std.specs.Prelude.{nat_eq, if◌then◌else◌}
use Rattle.std.proofs.Common.{refl, sym, subst, arith, set, get_or-set_same, get_or-set_other}
use Rattle.std.proofs.lemmas.Bool.{eqb-true, eqb-false}
use Rattle.share_model.proofs.lemmas.lists.FirstItemLemmas.{each-append, each-one}
use Rattle.share_bill.specs.declared.bill.sums.Sums.{Sums}
use Rattle.share_bill.specs.Sums.{nothing_sent, sums_at, one_more, IsSmall, AreSmall}

pub nothing-small : IsSmall nothing_sent
nothing-small = record { packets = omega arith; bytes = omega arith; units = omega arith }

pub small-at : (es : List Sums) (flow : ℕ) → AreSmall es → IsSmall (sums_at es flow)
small-at [] flow all = nothing-small
small-at (e ∷ es) zero all = all.0
small-at (e ∷ es) (suc flow) all = small-at es flow all.1

pub small-more : (old : Sums) (bytes units amount : ℕ) → IsSmall old → old.packets < 2 ^ 24 → bytes < 2 ^ 32
    → units ≤ 2 ^ 38 → IsSmall (one_more old bytes units amount)
small-more old bytes units amount was packets few short =
    let b = was.bytes in
    let u = was.units in
    record { packets = omega arith; bytes = omega arith; units = omega arith }

pub small-set : (es : List Sums) (at : ℕ) (s : Sums) → AreSmall es → IsSmall s → AreSmall (set es at s)
small-set [] at s all small = all
small-set (e ∷ es) zero s all small = (small, all.1)
small-set (e ∷ es) (suc at) s all small = (all.0, small-set es at s all.1 small)

pub small-pushed : (es : List Sums) → AreSmall es → AreSmall (es ++ nothing_sent ∷ [])
small-pushed es all =
    each-append (λ (s : Sums). IsSmall s) es (nothing_sent ∷ []) all
    (each-one (λ (s : Sums). IsSmall s) nothing_sent nothing-small)

pub sums-pushed : (es : List Sums) (flow : ℕ) → sums_at (es ++ nothing_sent ∷ []) flow ≡ sums_at es flow
sums-pushed [] zero = refl
sums-pushed [] (suc flow) = refl
sums-pushed (e ∷ es) zero = refl
sums-pushed (e ∷ es) (suc flow) = sums-pushed es flow

set_by : (es : List Sums) (at : ℕ) (s : Sums) (other : ℕ) (b : Bool) → nat_eq other at ≡ b → at < length es
    → sums_at (set es at s) other ≡ (if b then s else sums_at es other)
set_by es at s other true test inside =
    subst (λ n. sums_at (set es at s) n ≡ s) (sym (eqb-true other at test))
    (get_or-set_same es at s nothing_sent inside)
set_by es at s other false test inside =
    get_or-set_other es at other s nothing_sent (λ same. eqb-false other at test same)

pub sums-set : (es : List Sums) (at : ℕ) (s : Sums) (other : ℕ) → at < length es
    → sums_at (set es at s) other ≡ (if nat_eq other at then s else sums_at es other)
sums-set es at s other inside = set_by es at s other (nat_eq other at) refl inside
