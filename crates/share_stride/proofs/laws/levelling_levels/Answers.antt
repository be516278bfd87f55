use Rattle.share_model.proofs.lemmas.stride.LevellingLemmas.{levelled_is_level, level_stays}
use Rattle.share_stride.proofs.laws.levelling_levels.Goals as goal

pub returns-clause-level : goal.returns-clause-level
returns-clause-level c = levelled_is_level

pub returns-clause-stays : goal.returns-clause-stays
returns-clause-stays c = level_stays
