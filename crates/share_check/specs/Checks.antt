-- Why a plan cannot be opened.
use Rattle.std.specs.Prelude.{◌≡◌, ℕ, true, false, List, Some}
use Rattle.share_model.specs.declared.rates.Rate.{Rate}
use Rattle.share_tariff.specs.PlainRates.{are_plain_rates}
use Rattle.share_gateway.specs.Plan.{PlanView}
use Rattle.share_gateway.specs.Opened.{first_refused, is_book_life}
use Rattle.share_check.specs.declared.check.Unsound.{Unsound}
use Rattle.share_check.specs.declared.check.Unsound.TheVariants.{NoMemory, Tariffs, Events, Refused}

-- memory was refused, or the tariffs are on no shelf
abbrev pub IsNoShelf : List Rate → Unsound → Type 0
IsNoShelf rates NoMemory = Unit {0}
IsNoShelf rates Tariffs = are_plain_rates rates ≡ false
IsNoShelf rates Events = ⊥
IsNoShelf rates (Refused entry refusal) = ⊥

-- the first fault of tariffs, a plan and the events of a book; or memory was refused
abbrev pub IsUnsound : List Rate → PlanView → ℕ → Unsound → Type 0
IsUnsound rates p events NoMemory = Unit {0}
IsUnsound rates p events Tariffs = are_plain_rates rates ≡ false
IsUnsound rates p events Events = (are_plain_rates rates ≡ true) × (is_book_life events ≡ false)
IsUnsound rates p events (Refused entry refusal) =
    (are_plain_rates rates ≡ true) × (is_book_life events ≡ true) × (first_refused rates p ≡ Some (entry, refusal))
