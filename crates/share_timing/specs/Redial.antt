-- The pauses between dials, in milliseconds.
use Rattle.std.specs.Prelude.{◌*◌, ℕ, min, nat_le, if◌then◌else◌}

abbrev pub first_pause : ℕ
first_pause = 100

-- twice as long, up to five seconds
abbrev pub next_pause : ℕ → ℕ
next_pause pause = min (2 * pause) 5000

-- a connection that stood for five seconds
abbrev pub pause_after : ℕ → ℕ → ℕ
pause_after milliseconds pause = if nat_le 5000 milliseconds then first_pause else pause
