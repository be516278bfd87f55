-- Tariffs, checked against worked examples.
use Rattle.std.specs.Prelude.{◌≡◌, ℕ, List, [], ◌∷◌, map, refl}
use Rattle.share_model.specs.declared.rates.Rate.{Rate}
use Rattle.share_model.specs.link.Tariff.{units_of}

abbrev tariff : ℕ → ℕ → ℕ → Rate
tariff cell overhead price = record { cell = cell; overhead = overhead; price = price }

abbrev charges : Rate → List ℕ
charges r = map (units_of r) (0 ∷ 1 ∷ 48 ∷ 49 ∷ 1502 ∷ 9017 ∷ [])

by_the_byte : charges (tariff 1 0 1) ≡ 0 ∷ 1 ∷ 48 ∷ 49 ∷ 1502 ∷ 9017 ∷ []
by_the_byte = refl

cells_of_48 : charges (tariff 48 16 2) ≡ 0 ∷ 64 ∷ 64 ∷ 112 ∷ 1552 ∷ 9040 ∷ []
cells_of_48 = refl

cells_of_1024 : charges (tariff 1024 0 1) ≡ 0 ∷ 1024 ∷ 1024 ∷ 1024 ∷ 2048 ∷ 9216 ∷ []
cells_of_1024 = refl

cells_of_2048 : charges (tariff 2048 1024 3) ≡ 0 ∷ 3072 ∷ 3072 ∷ 3072 ∷ 3072 ∷ 11264 ∷ []
cells_of_2048 = refl
