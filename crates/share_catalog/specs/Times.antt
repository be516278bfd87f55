-- Times, as a row spells them.
use Rattle.std.specs.Prelude.{◌≡◌, ℕ, List, Option, MatchOption, ◌&&◌, false}
use Rattle.share_catalog.specs.Texts.{is_date, is_time_of_day, time_bytes}
use Rattle.share_catalog.specs.declared.time.Time.{Time}

unfoldable pub time_text : Time → List ℕ
time_text t = time_bytes t.year t.month t.day t.hour t.minute t.second

-- the time that has these numbers
pub record HasNumbers (year month day hour minute second : ℕ) (t : Time) : Type 0 where
  pub year_is : t.year ≡ year
  pub month_is : t.month ≡ month
  pub day_is : t.day ≡ day
  pub hour_is : t.hour ≡ hour
  pub minute_is : t.minute ≡ minute
  pub second_is : t.second ≡ second

-- it is there exactly if there is such a time
abbrev pub IsTimeOf : ℕ → ℕ → ℕ → ℕ → ℕ → ℕ → Option Time → Type 0
IsTimeOf year month day hour minute second made =
    MatchOption made ((is_date year month day && is_time_of_day hour minute second) ≡ false)
    (λ t. HasNumbers year month day hour minute second t)
