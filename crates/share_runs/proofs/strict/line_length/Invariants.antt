use Rattle.std.proofs.Common.{length, ◌-◌, ◌≤◌, take}
use Rattle.share_runs.specs.Strict.{EndsNoLine}
use Rattle.share_runs.proofs.strict.line_length.Given as goal

abbrev pub invariant-loop-at : goal.invariant-loop-at
invariant-loop-at l = (l.at ≤ length l.bytes) × EndsNoLine (take l.at l.bytes)

abbrev pub decreases-loop-at : goal.decreases-loop-at
decreases-loop-at l = length l.bytes - l.at
