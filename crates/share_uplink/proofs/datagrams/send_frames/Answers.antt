use Rattle.share_uplink.specs.Passing.{no_frame}
use Rattle.share_uplink.proofs.PassingLemmas.{sends_call}
use Rattle.share_uplink.proofs.datagrams.send_frames.Goals as goal

pub returns-then-not-is_writable-clause-frames : goal.returns-then-not-is_writable-clause-frames
returns-then-not-is_writable-clause-frames c = no_frame _

pub calls-init : goal.calls-init
calls-init c = no_frame _

pub calls-preserved : goal.calls-preserved
calls-preserved c =
    sends_call _ _ _ c.send_frame.result c.calls.invariant c.send_frame.ensures.sent c.send_frame.ensures.failed
