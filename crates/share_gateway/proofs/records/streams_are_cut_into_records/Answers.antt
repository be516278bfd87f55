use Rattle.share_gateway.proofs.RecordLemmas.{front_is, more_is, bad_is, part_short}
use Rattle.share_gateway.proofs.records.streams_are_cut_into_records.Goals as goal

pub returns-clause-front : goal.returns-clause-front
returns-clause-front c = front_is

pub returns-clause-more : goal.returns-clause-more
returns-clause-more c = more_is

pub returns-clause-bad : goal.returns-clause-bad
returns-clause-bad c = bad_is

pub returns-clause-room : goal.returns-clause-room
returns-clause-room c = part_short
