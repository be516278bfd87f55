use Rattle.share_model.proofs.lemmas.stride.LevellingLemmas.{moves_in_any_order, levelled_in_any_order}
use Rattle.share_stride.proofs.laws.moves_in_any_order.Goals as goal

pub returns-clause-moves : goal.returns-clause-moves
returns-clause-moves c = moves_in_any_order

pub returns-clause-levelling : goal.returns-clause-levelling
returns-clause-levelling c = levelled_in_any_order
