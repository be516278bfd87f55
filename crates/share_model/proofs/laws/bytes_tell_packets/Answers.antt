use Rattle.share_model.proofs.lemmas.run.HistoryLemmas.{run-frames, frames-unique, frames-tariffs, frames-version}
use Rattle.share_model.proofs.laws.bytes_tell_packets.Goals as goal

pub returns-clause-frames : goal.returns-clause-frames
returns-clause-frames c = run-frames

pub returns-clause-unique : goal.returns-clause-unique
returns-clause-unique c = frames-unique

pub returns-clause-tariffs : goal.returns-clause-tariffs
returns-clause-tariffs c = frames-tariffs

pub returns-clause-version : goal.returns-clause-version
returns-clause-version c = frames-version
