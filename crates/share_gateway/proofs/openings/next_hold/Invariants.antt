use Rattle.std.proofs.Common.{◌≡◌}
use Rattle.share_gateway.specs.OpeningLeft.{holds_left}
use Rattle.share_gateway.proofs.openings.next_hold.Given as goal

abbrev pub invariant-loop-index : goal.invariant-loop-index
invariant-loop-index l = (l.holder ≡ l.fn.holder) × (holds_left l.plan l.fn.holder ≡ holds_left l.plan l.index)
