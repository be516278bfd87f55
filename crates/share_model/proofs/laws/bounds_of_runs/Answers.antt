use Rattle.share_model.proofs.lemmas.run.BoundLemmas.{run-clock, run-near, run-account, run-past_short}
use Rattle.share_model.proofs.laws.bounds_of_runs.Goals as goal

pub returns-clause-clock : goal.returns-clause-clock
returns-clause-clock c = run-clock

pub returns-clause-near : goal.returns-clause-near
returns-clause-near c = run-near

pub returns-clause-account : goal.returns-clause-account
returns-clause-account c = run-account

pub returns-clause-past : goal.returns-clause-past
returns-clause-past c = run-past_short
