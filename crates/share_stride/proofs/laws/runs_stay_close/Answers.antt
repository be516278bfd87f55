use Rattle.share_model.proofs.lemmas.stride.ShareLemmas.{runs_stay_close}
use Rattle.share_stride.proofs.laws.runs_stay_close.Goals as goal

pub returns : goal.returns
returns c = runs_stay_close
