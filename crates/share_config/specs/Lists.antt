-- The lists of a file: tariffs, currencies, tenants and their ports.
use Rattle.std.specs.Prelude.{ℕ, ◌+◌, List, [], ◌∷◌, nat_lt, Ok, if◌then◌else◌}
use Rattle.toml.specs.Data.{Data, Items, no_items, item, Members}
use Rattle.share_model.specs.declared.rates.Rate.{Rate}
use Rattle.share_config.specs.declared.key.Key.{Key}
use Rattle.share_config.specs.declared.key.Key.TheVariants as key
use Rattle.share_config.specs.declared.key.Location.{Location}
use Rattle.share_config.specs.declared.key.Location.TheVariants as location
use Rattle.share_config.specs.declared.fault.Reason.TheVariants as reason
use Rattle.share_config.specs.Reading.{Said, ◌>>=◌, wrong, number_in, array_in, table_in, needed, optional, known}
use Rattle.share_config.specs.Reading.{each}

-- ---- Tariffs

abbrev pub tariff_of : ℕ → Data → Said Rate
tariff_of n d = do
  all ← table_in location.File key.Tariff d
  ms ← known (location.Tariff n) all
  cell ← needed (number_in 1 2048) (location.Tariff n) key.Cell ms
  overhead ← needed (number_in 0 1024) (location.Tariff n) key.Overhead ms
  price ← needed (number_in 0 65535) (location.Tariff n) key.Price ms
  Ok (record { cell = cell; overhead = overhead; price = price })

abbrev pub rate : ℕ → ℕ → ℕ → Rate
rate cell overhead price = record { cell = cell; overhead = overhead; price = price }

-- the tariffs of a file that gives none
abbrev pub default_tariffs : List Rate
default_tariffs = rate 1 0 1 ∷ rate 48 16 2 ∷ rate 1024 0 1 ∷ rate 2048 1024 3 ∷ []

abbrev pub count : Items → ℕ
count no_items = 0
count (item d ds) = count ds + 1

-- at most eight
abbrev pub some_tariffs : Items → Said (List Rate)
some_tariffs no_items = Ok default_tariffs
some_tariffs (item d ds) =
    if nat_lt 8 (count (item d ds))
    then wrong location.File key.Tariff (reason.TooMany 8)
    else each tariff_of 1 (item d ds)

abbrev pub tariffs_in : Location → Key → Data → Said (List Rate)
tariffs_in p k d = array_in p k d >>= some_tariffs

abbrev pub tariffs_of : Members → Said (List Rate)
tariffs_of ms = optional tariffs_in default_tariffs location.File key.Tariff ms
