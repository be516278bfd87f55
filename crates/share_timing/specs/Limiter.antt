-- The messages of one kind: ten are printed in a second, and the others are counted.
use Rattle.std.specs.Prelude.{◌+◌, ◌-◌, ◌^◌, ◌==◌, ℕ, min, nat_lt, if◌then◌else◌}
use Rattle.share_timing.specs.declared.limiter.Printing.{Printing}
use Rattle.share_timing.specs.declared.limiter.Printing.TheVariants.{Print, LeaveOut}

-- the second, the number of its messages that were printed, and the number left out
pub record LimiterView : Type 0 where
  pub second : ℕ
  pub printed : ℕ
  pub left_out : ℕ

abbrev pub new_limiter : LimiterView
new_limiter = record { second = 0; printed = 0; left_out = 0 }

-- the number left out before another second, and the new one
abbrev pub after_second : ℕ → LimiterView → ℕ × LimiterView
after_second second l =
    if second == l.second then (0, l) else (l.left_out, record { second = second; printed = 0; left_out = 0 })

abbrev pub printing_of : LimiterView → Printing
printing_of l = if nat_lt l.printed 10 then Print else LeaveOut

abbrev pub after_message : LimiterView → LimiterView
after_message l =
    if nat_lt l.printed 10
    then record l { printed = l.printed + 1 }
    else record l { left_out = min (l.left_out + 1) (2 ^ 64 - 1) }
