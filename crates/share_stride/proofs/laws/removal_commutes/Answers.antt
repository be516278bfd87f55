use Rattle.share_model.proofs.lemmas.stride.LevellingLemmas.{removal_commutes, removal_commutes_with_level}
use Rattle.share_stride.proofs.laws.removal_commutes.Goals as goal

pub returns-clause-moves : goal.returns-clause-moves
returns-clause-moves c = removal_commutes

pub returns-clause-levelling : goal.returns-clause-levelling
returns-clause-levelling c = removal_commutes_with_level
