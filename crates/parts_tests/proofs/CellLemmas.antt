-- Whole cells, counted one by one.
use Rattle.std.proofs.Common.{◌≡◌, ◌+◌, ◌*◌, ◌/◌, ◌<◌, ◌≤◌, ℕ, zero, suc, refl, arith, add-one}
use Rattle.std.proofs.Math.Nat.{le-div_iff_mul-le, div-lt_iff_lt-mul, mul-suc, mul_comm}
use Rattle.share_model.specs.declared.rates.Rate.{Rate}
use Rattle.share_model.specs.link.Tariff.{units_of}

pub one_more : (cell k : ℕ) → cell * (k + 1) ≡ cell * k + cell
one_more cell k = rw (add-one, mul-suc) refl

-- k cells and one more, of which the last one was begun within the bytes, are the cells that the bytes are charged
pub covered-units : (cell overhead price count k : ℕ) → 0 < cell → cell * k < count → count ≤ cell * k + cell
    → overhead + (cell * k + cell) ≡ units_of (record { cell = cell; overhead = overhead; price = price }) count
covered-units cell overhead price zero k some begun over = absurd (omega (arith, begun))
covered-units cell overhead price (suc n) k some begun over =
    let least : k * cell ≤ n = omega (arith, mul_comm k cell, begun) in
    let most : n < (k + 1) * cell = omega (arith, mul_comm (k + 1) cell, one_more cell k, over) in
    let low : k ≤ n / cell = (le-div_iff_mul-le some).1 least in
    let high : n / cell < k + 1 = (div-lt_iff_lt-mul some).1 most in
    let cells : n / cell ≡ k = omega (arith, low, high) in
    rw (cells, one_more) refl
