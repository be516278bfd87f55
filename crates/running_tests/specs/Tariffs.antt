-- The tariffs of the tests that run threads.
use Rattle.std.proofs.Common.{arith}
use Rattle.std.specs.Prelude.{List, [], ◌∷◌}
use Rattle.share_model.specs.declared.rates.Rate.{Rate}
use Rattle.share_model.specs.link.Tariff.{AreInRange}

-- one tariff, by the byte
abbrev pub byte_rates : List Rate
byte_rates = record { cell = 1; overhead = 0; price = 1 } ∷ []

pub are_in_range : AreInRange byte_rates
are_in_range = record {
  each = (record { some_cell = omega arith; cell = omega arith; overhead = omega arith; price = omega arith }, tt);
  few = omega arith;
}
