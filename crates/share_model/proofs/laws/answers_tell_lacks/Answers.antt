use Rattle.share_model.proofs.lemmas.text.NoMemoryLemmas.{talk-found}
use Rattle.share_model.specs.text.Talk.{start_of_script}
use Rattle.share_model.proofs.laws.answers_tell_lacks.Goals as goal

pub returns-clause-text : goal.returns-clause-text
returns-clause-text c = λ life rates lacks lines found. (talk-found life rates start_of_script lacks lines found).text

pub returns-clause-state : goal.returns-clause-state
returns-clause-state c = λ life rates lacks lines found. (talk-found life rates start_of_script lacks lines found).state
