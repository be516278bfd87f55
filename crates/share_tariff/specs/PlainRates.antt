-- Tariffs that stand on a shelf of the plain rule.
use Rattle.std.specs.Prelude.{Bool, ◌&&◌, List, length}
use Rattle.std.specs.List.{list_all}
use Rattle.share_model.specs.declared.rates.Rate.{Rate}
use Rattle.share_model.specs.link.Tariff.{is_rate}
use Rattle.share_tariff.specs.ShelfLength.{is_shelf_length}

abbrev pub is_plain_rate : Rate → Bool
is_plain_rate r = is_rate r.cell r.overhead r.price

-- 1 to 8 tariffs, each in its range
abbrev pub are_plain_rates : List Rate → Bool
are_plain_rates rates = is_shelf_length (length rates) && list_all is_plain_rate rates
