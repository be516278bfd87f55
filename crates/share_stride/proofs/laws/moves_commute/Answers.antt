use Rattle.share_model.proofs.lemmas.stride.MoveLemmas.{moves_commute}
use Rattle.share_stride.proofs.laws.moves_commute.Goals as goal

pub returns : goal.returns
returns c = moves_commute
