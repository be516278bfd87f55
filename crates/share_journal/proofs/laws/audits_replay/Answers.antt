use Rattle.share_journal.proofs.AuditLemmas.{replay, replay_told}
use Rattle.share_journal.proofs.laws.audits_replay.Goals as goal

pub returns-clause-ample : goal.returns-clause-ample
returns-clause-ample g c = replay _ _ _ c.journal.ensures.run

pub returns-clause-answered : goal.returns-clause-answered
returns-clause-answered g c = replay_told _ _ _ c.journal.ensures.run
