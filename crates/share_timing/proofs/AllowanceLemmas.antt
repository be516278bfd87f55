-- The invariant of the calls of an allowance.
use Rattle.std.specs.Prelude.{◌≡◌, ◌≤◌, ◌+◌, ◌*◌, ℕ}
use Rattle.std.proofs.Common.{ap, arith, refl}
use Rattle.std.proofs.lemmas.Bool.{ltb-true}
use Rattle.share_timing.specs.Allowance.{AllowanceView, most_room}
use Rattle.share_timing.specs.Allowance.{Keeps, began, passed, sent}

-- the bytes that were sent and those that may still be sent are the allowance of the time
record IsBounded (rate bytes time : ℕ) (a : AllowanceView) : Type 0 where
  rate_is : a.rate ≡ rate
  bound : bytes * 1000000000 + a.room ≤ rate * time + most_room rate

bounded : (rate bytes time : ℕ) (a : AllowanceView) → Keeps rate bytes time a → IsBounded rate bytes time a
bounded rate _ _ _ began = record { rate_is = refl; bound = omega arith }
bounded rate _ _ _ (passed bytes time a before nanoseconds) =
    let so_far = bounded rate bytes time a before in
    record {
      rate_is = so_far.rate_is;
      bound = omega (arith, so_far.bound, ap (λ (r : ℕ). r * nanoseconds) so_far.rate_is);
    }
bounded rate _ _ _ (sent bytes time a before count left few) =
    let so_far = bounded rate bytes time a before in
    record {
      rate_is = so_far.rate_is;
      bound = omega (arith, so_far.bound, ltb-true (9017 * 1000000000) a.room left, few);
    }

pub rate_is_kept : (rate bytes time : ℕ) (a : AllowanceView) → Keeps rate bytes time a
    → bytes * 1000000000 ≤ rate * (time + 20000000) + 9017 * 1000000000
rate_is_kept rate bytes time a keeps = omega (arith, (bounded rate bytes time a keeps).bound)
