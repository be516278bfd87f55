-- The shares of two tenants in the events of a book.
use Rattle.std.specs.Prelude.{◌≡◌, ◌≢◌, ◌++◌, ℕ, List, None}
use Rattle.share_base.specs.declared.command.Event.{Event}
use Rattle.share_base.specs.declared.version.Version.TheVariants.{Two}
use Rattle.share_model.specs.declared.rates.Rate.{Rate}
use Rattle.share_model.specs.run.Fold.{State, run}
use Rattle.share_model.specs.run.Shares.{KeepCompeting, stretch_charges}
use Rattle.share_model.specs.stride.Moves.{client}
use Rattle.share_model.specs.stride.Shares.{IsWithinShare}

-- the charge of the first of two flows in these events, after this state, is within its share beside the other
abbrev pub IsChargedWithin : ℕ → ℕ → List Rate → State → List Event → Type 0
IsChargedWithin one other rates s stretch =
    IsWithinShare (client s.live.queue one).pass (client s.live.queue other).pass
    (stretch_charges one other rates s stretch)

-- so it is in each stretch of the events of a book that begins with no frame in part. The condition is that before it
-- and after each of its events both compete, each with tickets that stay the same
abbrev pub SharesOfEvents : List Rate → List Event → Type 0
SharesOfEvents rates events =
    (before stretch after : List Event) (one other one_tickets other_tickets : ℕ)
    → events ≡ before ++ stretch ++ after → one ≢ other → (run Two rates before).live.part ≡ None
    → KeepCompeting one other one_tickets other_tickets rates (run Two rates before) stretch
    → IsChargedWithin one other rates (run Two rates before) stretch
