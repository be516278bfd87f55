-- The product and the quotient of a rescaled remain fit their types.
use Rattle.std.proofs.Common.{◌≡◌, ℕ, zero, suc, ◌+◌, ◌*◌, ◌/◌, ◌<◌, ◌≤◌, ◌^◌, refl, ap, ◌∙◌, arith}
use Rattle.std.specs.Prelude.{ℤ, pos, negsuc, ◌*ℤ◌, FitsSigned}
use Rattle.std.proofs.Math.Nat.{mul-div_cancel, le-mul_of_pos_right, suc-mul}
use Rattle.std.proofs.lemmas.Nat.{mul-le, div-mul-add}
use Rattle.std.proofs.lemmas.Int.{to_z-of_z}
use Rattle.std.specs.Int.{int_div_euclid}
use mir.Syntax.{w128}
use mir.Val.{to_z, of_z}
use borrow.Author.Differences.{up, down, product_is, fits_in}
use Rattle.share_model.specs.stride.Moves.{floor_div, remain_on}
use Rattle.share_model.proofs.lemmas.stride.DivisionLemmas.{remain_on-up, remain_on-down}
use Rattle.share_stride.specs.Fits.{IsWithin}

pub remain_on-within : (new old : ℕ) (remain : ℤ) (bound : ℕ) → 0 < bound → IsWithin remain (old * bound)
    → IsWithin (remain_on new old remain) (new * bound)
remain_on-within new old remain bound positive within = record {
  below = remain_on-down new old remain bound within.below;
  above = remain_on-up new old remain bound positive within.above;
}

fits : (z : ℤ) (bound : ℕ) → up z ≤ bound → down z ≤ bound → bound < 2 ^ 127 → FitsSigned w128 z
fits z bound above below small = fits_in w128 z (omega arith)

-- a remain within 2^41 strides, times another stride
product_fits : (new old : ℕ) (remain : ℤ) → new ≤ 2 ^ 40 → old ≤ 2 ^ 40 → IsWithin remain (old * 2 ^ 41)
    → FitsSigned w128 (remain *ℤ pos new)
product_fits new old remain small_new small_old within =
    let above = mul-le (up remain) new (2 ^ 81) (2 ^ 40) (omega (arith, within.above)) small_new in
    let below = mul-le (down remain) new (2 ^ 81) (2 ^ 40) (omega (arith, within.below)) small_new in
    fits (remain *ℤ pos new) (2 ^ 121) (omega (arith, product_is remain (pos new), above))
    (omega (arith, product_is remain (pos new), below)) (omega arith)

-- the product and the quotient of the code
pub quotient_is : (new old : ℕ) (remain a q : ℤ) → new ≤ 2 ^ 40 → old ≤ 2 ^ 40 → IsWithin remain (old * 2 ^ 41)
    → FitsSigned w128 remain → FitsSigned w128 a → FitsSigned w128 q → a ≡ pos new
    → q ≡ floor_div (to_z w128 (of_z w128 (to_z w128 (of_z w128 remain) *ℤ to_z w128 (of_z w128 a)))) old
    → (old ≡ 0 → ⊥) → to_z w128 (of_z w128 q) ≡ remain_on new old remain
quotient_is new old remain a q small_new small_old within fits_remain fits_a fits_q a_is q_is positive =
    to_z-of_z w128 q fits_q
    ∙ q_is
    ∙ ap (λ x. floor_div (to_z w128 (of_z w128 (x *ℤ to_z w128 (of_z w128 a)))) old) (to_z-of_z w128 remain fits_remain)
    ∙ ap (λ x. floor_div (to_z w128 (of_z w128 (remain *ℤ x))) old) (to_z-of_z w128 a fits_a ∙ a_is)
    ∙ ap (λ x. floor_div x old)
    (to_z-of_z w128 (remain *ℤ pos new) (product_fits new old remain small_new small_old within))
    ∙ by_old old positive
  where
    by_old : (n : ℕ) → (n ≡ 0 → ⊥) → floor_div (remain *ℤ pos new) n ≡ remain_on new n remain
    by_old zero positive = absurd (positive refl)
    by_old (suc n) positive = refl

-- a remain on the stride that it was on
same_quotient : (z remain : ℤ) (n : ℕ) → up z ≡ up remain * suc n → down z ≡ down remain * suc n
    → int_div_euclid z (pos (suc n)) ≡ remain
same_quotient (pos a) (pos m) n above below =
    ap (λ x. pos (x / suc n)) above ∙ ap pos (mul-div_cancel m (omega arith))
same_quotient (pos a) (negsuc m) n above below =
    absurd (omega (arith, below, le-mul_of_pos_right {m = suc n} (suc m) (omega arith)))
same_quotient (negsuc a) (pos m) n above below = absurd (omega (arith, below))
same_quotient (negsuc a) (negsuc m) n above below =
    let is : a ≡ m * suc n + n = omega (arith, below, suc-mul m (suc n)) in
    ap (λ x. negsuc (x / suc n)) is ∙ ap negsuc (div-mul-add m (suc n) n (omega arith))

pub remain_on-same : (stride : ℕ) (remain : ℤ) → (stride ≡ 0 → ⊥) → remain_on stride stride remain ≡ remain
remain_on-same zero remain some = absurd (some refl)
remain_on-same (suc n) remain some =
    same_quotient (remain *ℤ pos (suc n)) remain n (omega (arith, product_is remain (pos (suc n))))
    (omega (arith, product_is remain (pos (suc n))))
