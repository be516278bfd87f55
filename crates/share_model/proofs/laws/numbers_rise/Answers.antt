use Rattle.share_model.proofs.lemmas.run.SequenceNumberLemmas.{run-numbers, run-once}
use Rattle.share_model.proofs.laws.numbers_rise.Goals as goal

pub returns-clause-rise : goal.returns-clause-rise
returns-clause-rise c = run-numbers

pub returns-clause-once : goal.returns-clause-once
returns-clause-once c = run-once
