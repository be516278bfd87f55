use Rattle.std.proofs.Common.{◌-◌}
use Rattle.share_stride.specs.Seating.{HoleSinks}
use Rattle.share_stride.proofs.seating.Seating.sink.Given as goal

abbrev pub invariant-loop-from : goal.invariant-loop-from
invariant-loop-from l =
    HoleSinks l.count l.fn.self.entries.items l.fn.self.seats.items l.self.entries.items l.self.seats.items l.hole
    l.entry

abbrev pub decreases-loop-from : goal.decreases-loop-from
decreases-loop-from l = l.count - l.hole
