use Rattle.share_model.proofs.lemmas.text.EventLemmas.{after-state, after-writes, events-may_follow, talk-texts}
use Rattle.share_model.proofs.lemmas.text.EventLemmas.{report-after}
use Rattle.share_model.specs.text.Talk.{start_of_script}
use Rattle.share_model.proofs.laws.scripts_are_runs.Goals as goal

pub returns-clause-follow : goal.returns-clause-follow
returns-clause-follow c = events-may_follow

pub returns-clause-state : goal.returns-clause-state
returns-clause-state c = after-state

pub returns-clause-texts : goal.returns-clause-texts
returns-clause-texts c = talk-texts

pub returns-clause-reports : goal.returns-clause-reports
returns-clause-reports c = report-after

pub returns-clause-writes : goal.returns-clause-writes
returns-clause-writes c = λ life rates. after-writes life rates start_of_script
