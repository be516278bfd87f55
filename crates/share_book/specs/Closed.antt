-- The view of a closed book in contracts.
use Rattle.std.specs.Prelude.{ℕ, List}
use Rattle.share_model.specs.declared.link.Totals.{Totals}
use Rattle.share_model.specs.link.Buffers.{Buffer}
use Rattle.share_model.specs.link.Totals.{totals}
use Rattle.share_book.specs.Book.{BookView}
use Rattle.share_gateway.specs.Plan.{PlanView}

-- its text that was not drained, its plan, the packets that wait, by flow number, and its totals
pub record ClosedView : Type 0 where
  pub text : List ℕ
  pub plan : PlanView
  pub buffers : List Buffer
  pub totals : Totals

-- the rest of a book when it is closed
abbrev pub closed_of : BookView → ClosedView
closed_of b = record {
  text = b.audited.text.bytes;
  plan = b.plan;
  buffers = b.audited.link.live.buffers;
  totals = totals b.audited.link.live;
}
