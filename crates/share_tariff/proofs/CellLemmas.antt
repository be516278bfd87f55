-- Whole cells over some bytes.
use Rattle.std.proofs.Common.{◌≡◌, ◌+◌, ◌*◌, ◌/◌, ◌<◌, ◌≤◌, ℕ, zero, suc, refl, arith, add-one}
use Rattle.std.proofs.Math.Nat.{lt-mul-div-succ, mul-div-le, mul-suc}
use Rattle.share_model.specs.declared.rates.Rate.{Rate}
use Rattle.share_model.specs.link.Tariff.{units_of}

one_more : (cell k : ℕ) → cell * (k + 1) ≡ cell * k + cell
one_more cell k = rw (add-one, mul-suc) refl

-- some bytes are charged the overhead and whole cells: no fewer units than bytes, and no whole cell more
pub whole-cells : (rate : Rate) (count : ℕ) → 1 ≤ rate.cell → 1 ≤ count
    → (cells : ℕ) × (units_of rate count ≡ rate.overhead + rate.cell * cells)
    × (count ≤ rate.cell * cells) × (rate.cell * cells < count + rate.cell)
whole-cells rate zero cell some = absurd (omega (arith, some))
whole-cells rate (suc n) cell some =
    let over : n < rate.cell * (n / rate.cell + 1) = lt-mul-div-succ n cell in
    let last = one_more rate.cell (n / rate.cell) in
    (n / rate.cell + 1, refl, omega (arith, over), omega (arith, last, mul-div-le n rate.cell))
