use Rattle.std.proofs.Common.{◌≤◌, ◌-◌, length}
use Rattle.share_flows.proofs.buffers.by_halves.Given as goal

abbrev pub invariant-loop-low : goal.invariant-loop-low
invariant-loop-low l = (l.low ≤ l.high) × (l.high ≤ length l.rings)

abbrev pub decreases-loop-low : goal.decreases-loop-low
decreases-loop-low l = l.high - l.low
