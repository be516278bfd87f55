use Rattle.share_model.proofs.lemmas.run.AcceptedPacketLemmas.{run-accepted_packets, run-sent_first}
use Rattle.share_model.proofs.laws.packets_are_sent_as_accepted.Goals as goal

pub returns-clause-open : goal.returns-clause-open
returns-clause-open c = run-accepted_packets

pub returns-clause-first : goal.returns-clause-first
returns-clause-first c = run-sent_first
