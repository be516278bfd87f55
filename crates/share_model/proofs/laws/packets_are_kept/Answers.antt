use Rattle.share_model.proofs.lemmas.run.PacketLemmas.{run-waiting, run-broken, run-torn}
use Rattle.share_model.proofs.laws.packets_are_kept.Goals as goal

pub returns-clause-accepted : goal.returns-clause-accepted
returns-clause-accepted c = run-waiting

pub returns-clause-broken : goal.returns-clause-broken
returns-clause-broken c = run-broken

pub returns-clause-torn : goal.returns-clause-torn
returns-clause-torn c = run-torn
