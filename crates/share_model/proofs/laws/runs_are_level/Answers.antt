use Rattle.share_model.proofs.lemmas.run.BoundLemmas.{run-level, run-with_level_queue}
use Rattle.share_model.proofs.laws.runs_are_level.Goals as goal

pub returns-clause-level : goal.returns-clause-level
returns-clause-level c = run-level

pub returns-clause-stays : goal.returns-clause-stays
returns-clause-stays c = run-with_level_queue
