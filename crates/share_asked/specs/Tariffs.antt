-- The tariffs of the program are in range.
use Rattle.std.proofs.Common.{arith}
use Rattle.share_model.specs.link.Tariff.{AreInRange}
use Rattle.share_asked.specs.Rates.{program_rates}

pub are_in_range : AreInRange program_rates
are_in_range = record {
  each = (
    record { some_cell = omega arith; cell = omega arith; overhead = omega arith; price = omega arith },
    (
      record { some_cell = omega arith; cell = omega arith; overhead = omega arith; price = omega arith },
      (
        record { some_cell = omega arith; cell = omega arith; overhead = omega arith; price = omega arith },
        (record { some_cell = omega arith; cell = omega arith; overhead = omega arith; price = omega arith }, tt),
      ),
    ),
  );
  few = omega arith;
}
