use Rattle.share_reconciliation.proofs.ReplayLemmas.{replay-ample, replay-found, script-replays}
use Rattle.share_reconciliation.proofs.laws.whole_texts_replay.Goals as goal

pub returns-clause-ample : goal.returns-clause-ample
returns-clause-ample c a text is_whole life lacks longer ample = replay-ample a text is_whole life lacks longer ample

pub returns-clause-answered : goal.returns-clause-answered
returns-clause-answered c a text is_whole life lacks longer found = replay-found a text is_whole life lacks longer found

pub returns-clause-script : goal.returns-clause-script
returns-clause-script c a text is_whole before printed left old new longer same_rates fold found =
    script-replays a text is_whole before printed left old new longer same_rates fold found
