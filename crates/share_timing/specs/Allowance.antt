-- The allowance of a rate, in billionths of a byte.
use Rattle.std.specs.Prelude.{◌≡◌, ◌≤◌, ◌+◌, ◌-◌, ◌*◌, ℕ, Bool, true, min, nat_lt}

-- bytes a second; and what may be sent, the longest frame beyond the allowance among it
pub record AllowanceView : Type 0 where
  pub rate : ℕ
  pub room : ℕ

-- the longest frame, and 20 milliseconds of the rate
abbrev pub most_room : ℕ → ℕ
most_room rate = 9017 * 1000000000 + rate * 20000000

pub record IsAllowance (a : AllowanceView) : Type 0 where
  pub some : 1 ≤ a.rate
  pub few : a.room ≤ most_room a.rate

abbrev pub full_allowance : ℕ → AllowanceView
full_allowance rate = record { rate = rate; room = most_room rate }

abbrev pub after_time : ℕ → AllowanceView → AllowanceView
after_time nanoseconds a = record a { room = min (a.room + a.rate * nanoseconds) (most_room a.rate) }

abbrev pub is_left : AllowanceView → Bool
is_left a = nat_lt (9017 * 1000000000) a.room

abbrev pub after_bytes : ℕ → AllowanceView → AllowanceView
after_bytes count a = record a { room = a.room - count * 1000000000 }

-- an allowance of a rate after that many bytes and that many nanoseconds. Each frame was sent while some of it was
-- left, and had at most 9017 bytes
pub data Keeps (rate : ℕ) : ℕ → ℕ → AllowanceView → Type 0 where
  began : Keeps rate 0 0 (full_allowance rate)
  passed : (bytes time : ℕ) (a : AllowanceView) → Keeps rate bytes time a → (nanoseconds : ℕ)
      → Keeps rate bytes (time + nanoseconds) (after_time nanoseconds a)
  sent : (bytes time : ℕ) (a : AllowanceView) → Keeps rate bytes time a → (count : ℕ) → is_left a ≡ true
      → count ≤ 9017 → Keeps rate (bytes + count) time (after_bytes count a)
