use Rattle.share_gateway.proofs.FrameLemmas.{frames_are, first_are, part_short}
use Rattle.share_gateway.proofs.frames.streams_are_cut_into_frames.Goals as goal

pub returns-clause-frames : goal.returns-clause-frames
returns-clause-frames c = frames_are

pub returns-clause-room : goal.returns-clause-room
returns-clause-room c = part_short

pub returns-clause-first : goal.returns-clause-first
returns-clause-first c = first_are
