use Rattle.share_uplink.specs.Passing.{no_frame, nothing}
use Rattle.share_uplink.proofs.PassingLemmas.{frames_taken}
use Rattle.share_uplink.proofs.datagrams.exchange_frames.Goals as goal

pub returns-in_err-reads-clause-frames : goal.returns-in_err-reads-clause-frames
returns-in_err-reads-clause-frames c = no_frame _

pub returns-in_err-reads-clause-wire : goal.returns-in_err-reads-clause-wire
returns-in_err-reads-clause-wire c = nothing _

pub returns-in_err-writes-clause-wire : goal.returns-in_err-writes-clause-wire
returns-in_err-writes-clause-wire c = frames_taken _ _ c.send_frames.ensures.frames

pub returns-clause-wire : goal.returns-clause-wire
returns-clause-wire c = frames_taken _ _ c.send_frames.ensures.frames
