use Rattle.std.proofs.Common.{length}
use Rattle.share_downlink.specs.Given.{CutsOff}
use Rattle.share_downlink.proofs.incoming.Incoming.give_all.Given as goal

abbrev pub invariant-frames : goal.invariant-frames
invariant-frames g l = CutsOff g.D.Deliver.delivers l.fn.taker l.fn.counts l.fn.self l.taker l.counts l.self

abbrev pub decreases-frames : goal.decreases-frames
decreases-frames g l = length l.self.bytes
