-- Tariffs: the units that a frame is charged, and how an account is posted.
use Rattle.std.specs.Prelude.{ℕ, ◌+◌, ◌*◌, ◌/◌, ◌≤◌, zero, suc, Bool, ◌&&◌, List, length, nat_le, Option, None}
use Rattle.std.specs.Prelude.{unwrap_or, slice_get}
use Rattle.share_model.specs.declared.rates.Rate.{Rate}
use Rattle.share_model.specs.lists.Each.{Each}

-- nothing for no byte; otherwise the overhead, and whole cells for the bytes
abbrev pub units_of : Rate → ℕ → ℕ
units_of r zero = 0
units_of r (suc n) = r.overhead + r.cell * (n / r.cell + 1)

-- an account grows by the price for each unit
abbrev pub post_of : Rate → ℕ → ℕ → ℕ
post_of r account units = account + r.price * units

-- the tariff of a number, from 1
abbrev pub rate_at : List Rate → ℕ → Option Rate
rate_at rates zero = None
rate_at rates (suc n) = slice_get rates n

-- the same, and a tariff that costs nothing if no tariff has the number
abbrev pub rate_of : List Rate → ℕ → Rate
rate_of rates number = unwrap_or (rate_at rates number) (record { cell = 1; overhead = 0; price = 0 })

abbrev pub is_rate : ℕ → ℕ → ℕ → Bool
is_rate cell overhead price = nat_le 1 cell && nat_le cell 2048 && nat_le overhead 1024 && nat_le price 65535

pub record IsInRange (r : Rate) : Type 0 where
  pub some_cell : 1 ≤ r.cell
  pub cell : r.cell ≤ 2048
  pub overhead : r.overhead ≤ 1024
  pub price : r.price ≤ 65535

-- the tariffs of a shelf: each in range, and at most eight
pub record AreInRange (rates : List Rate) : Type 0 where
  pub each : Each IsInRange rates
  pub few : length rates ≤ 8
