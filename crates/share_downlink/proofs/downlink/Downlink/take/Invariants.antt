use Rattle.share_downlink.specs.Given.{GivesFrames}
use Rattle.share_downlink.proofs.downlink.Downlink.take.Given as goal

abbrev pub invariant-loop-index : goal.invariant-loop-index
invariant-loop-index g l = GivesFrames g.D.Deliver.delivers l.fn.taker l.fn.self l.taker l.self
