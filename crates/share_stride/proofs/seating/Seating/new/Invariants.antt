use Rattle.share_stride.proofs.SeatLemmas.{IsIdle}
use Rattle.share_stride.proofs.seating.Seating.new.Given as goal

abbrev pub invariant-loop-key : goal.invariant-loop-key
invariant-loop-key l = IsIdle l.entries.items l.seats.items l.key
