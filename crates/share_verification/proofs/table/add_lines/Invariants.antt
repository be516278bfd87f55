use Rattle.std.proofs.Common.{length}
use Rattle.share_verification.specs.Tables.{AreLinesBefore}
use Rattle.share_verification.proofs.table.add_lines.Given as goal

abbrev pub invariant-loop-line : goal.invariant-loop-line
invariant-loop-line l = AreLinesBefore l.text l.rows.items l.left

abbrev pub decreases-loop-line : goal.decreases-loop-line
decreases-loop-line l = length l.left
