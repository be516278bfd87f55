-- The view of a link in contracts: its life and its tariffs, which never change, what it holds, and its writer.
use Rattle.std.specs.Prelude.{ℕ, List}
use Rattle.share_model.specs.declared.rates.Rate.{Rate}
use Rattle.share_model.specs.link.Live.{Live}

pub record LinkView (W : Type 0) : Type 0 where
  pub life : ℕ
  pub rates : List Rate
  pub live : Live
  pub writer : W
