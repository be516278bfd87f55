use Rattle.std.proofs.Common.{arith}
use Rattle.share_downlink.proofs.GivenLemmas.{frame_left}
use Rattle.share_downlink.proofs.incoming.Incoming.give_first.Goals as goal

pub overflow_sub-self : goal.overflow_sub-self
overflow_sub-self g c =
    let left = frame_left _ _ _ _ _ _ _ _ c.in-Frame.ensures.cut c.payload-payload.ensures c.self.invariant in
    omega (arith, left)

pub invariant_of-self : goal.invariant_of-self
invariant_of-self g c =
    let left = frame_left _ _ _ _ _ _ _ _ c.in-Frame.ensures.cut c.payload-payload.ensures c.self.invariant in
    omega (arith, left)
