-- Bounds of strides, and of remains on a new stride.
use Rattle.std.proofs.Common.{ℕ, zero, suc, ◌*◌, ◌<◌, ◌≤◌, ◌^◌, ap, arith}
use Rattle.std.specs.Prelude.{ℤ, pos, negsuc, ◌*ℤ◌}
use Rattle.std.proofs.Math.Nat.{mul_assoc, mul_comm, mul-le-mul_right, mul-le-mul_left, div-le_of_le-mul}
use Rattle.std.proofs.Math.Nat.{div-lt_iff_lt-mul, le-div_iff_mul-le, div-mul-le_self, div-le_self, le-mul_of_pos_right}
use borrow.Author.Differences.{up, down, product_is}
use Rattle.share_model.specs.stride.Moves.{floor_div, remain_on, stride_of}

floor_div-up : (z : ℤ) (d bound : ℕ) → up z ≤ d * bound → up (floor_div z d) ≤ bound
floor_div-up (pos a) d bound h = div-le_of_le-mul d h
floor_div-up (negsuc a) d bound h = omega arith

floor_div-down : (z : ℤ) (d bound : ℕ) → 0 < d → down z ≤ d * bound → down (floor_div z d) ≤ bound
floor_div-down (pos a) d bound positive h = omega arith
floor_div-down (negsuc a) d bound positive h =
    let turned : a < bound * d = omega (arith, mul_comm d bound) in
    (div-lt_iff_lt-mul positive).1 turned

-- a product with a factor that is not negative, if the other factor is within a multiple of d
scaled : (n k d bound : ℕ) → n ≤ d * bound → n * k ≤ d * (k * bound)
scaled n k d bound h =
    let more : n * k ≤ d * bound * k = mul-le-mul_right k h in
    omega (arith, mul_assoc d bound k, ap (λ x. d * x) (mul_comm bound k))

pub remain_on-up : (new old : ℕ) (remain : ℤ) (bound : ℕ) → 0 < bound → up remain ≤ old * bound
    → up (remain_on new old remain) ≤ new * bound
remain_on-up new zero remain bound positive h = le-mul_of_pos_right new positive
remain_on-up new (suc n) remain bound positive h =
    floor_div-up (remain *ℤ pos new) (suc n) (new * bound)
    (omega (arith, product_is remain (pos new), scaled (up remain) new (suc n) bound h))

pub remain_on-down : (new old : ℕ) (remain : ℤ) (bound : ℕ) → down remain ≤ old * bound
    → down (remain_on new old remain) ≤ new * bound
remain_on-down new zero remain bound h = omega arith
remain_on-down new (suc n) remain bound h =
    floor_div-down (remain *ℤ pos new) (suc n) (new * bound) (omega arith)
    (omega (arith, product_is remain (pos new), scaled (down remain) new (suc n) bound h))

pub stride_of-le : (tickets : ℕ) → stride_of tickets ≤ 2 ^ 40
stride_of-le tickets = div-le_self (2 ^ 40) tickets

-- more tickets, a lesser stride
pub stride_of-antitone : (few many : ℕ) → 0 < few → few ≤ many → stride_of many ≤ stride_of few
stride_of-antitone few many positive le =
    let less : stride_of many * few ≤ stride_of many * many = mul-le-mul_left (stride_of many) le in
    (le-div_iff_mul-le positive).1 (omega (arith, less, div-mul-le_self (2 ^ 40) many))
