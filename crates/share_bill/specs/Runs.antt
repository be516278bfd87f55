-- A bill after some lines of a book, and the run of the events of these lines.
use Rattle.std.specs.Prelude.{◌≡◌, ℕ, List, None}
use Rattle.share_base.specs.declared.command.Event.{Event}
use Rattle.share_base.specs.declared.version.Version.TheVariants.{Two}
use Rattle.share_model.specs.declared.rates.Rate.{Rate}
use Rattle.share_model.specs.run.Events.{MayRun}
use Rattle.share_model.specs.run.Fold.{empty_state, run}
use Rattle.share_model.specs.run.Sound.{max_life}
use Rattle.share_bill.specs.Bills.{AreEvents, tenants_in, sums_of}
use Rattle.share_bill.specs.Makings.{BillView, IsBookLink}
use Rattle.share_bill.specs.Sums.{sums_at}

-- each line is the next event of a book. The bill holds the link of these events, on which no frame is in part. It
-- holds the flows that they opened for tenants, and for each flow the sums over the packets that they sent
pub record IsBillOf {W : Type 0} (rates : List Rate) (lines : List (List ℕ)) (events : List Event)
    (bill : BillView W) : Type 0 where
  pub are : AreEvents bill.kind rates (empty_state Two) lines events
  pub may : MayRun Two max_life rates events
  pub link : IsBookLink bill.link
  pub rates_are : bill.link.rates ≡ rates
  pub live : bill.link.live ≡ (run Two rates events).live
  pub whole : (run Two rates events).live.part ≡ None
  pub tenants : bill.tenants ≡ tenants_in rates (empty_state Two) events
  pub sent : (flow : ℕ) → sums_at bill.sent flow ≡ sums_of rates (run Two rates events) flow
