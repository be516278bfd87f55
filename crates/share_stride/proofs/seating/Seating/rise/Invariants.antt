use Rattle.share_stride.specs.Seating.{HoleRises}
use Rattle.share_stride.proofs.seating.Seating.rise.Given as goal

abbrev pub invariant-loop-from : goal.invariant-loop-from
invariant-loop-from l =
    HoleRises l.fn.self.entries.items l.fn.self.seats.items l.fn.start l.self.entries.items l.self.seats.items l.hole
    l.entry

abbrev pub decreases-loop-from : goal.decreases-loop-from
decreases-loop-from l = l.hole
