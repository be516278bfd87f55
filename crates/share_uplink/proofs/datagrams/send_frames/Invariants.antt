use Rattle.share_uplink.specs.Passing.{SendsFrames}
use Rattle.share_uplink.proofs.datagrams.send_frames.Given as goal

abbrev pub invariant-calls : goal.invariant-calls
invariant-calls l = SendsFrames l.initial.transit l.transit
