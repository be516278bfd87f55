-- The view of a plan in contracts that takes the place of the one before.
use Rattle.std.specs.Prelude.{List}
use Rattle.share_model.specs.declared.rates.Rate.{Rate}
use Rattle.share_gateway.specs.Plan.{PlanView}

-- the plan, and its tariffs in the order of their numbers
pub record NextPlanView : Type 0 where
  pub plan : PlanView
  pub rates : List Rate
