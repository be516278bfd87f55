use Rattle.share_model.proofs.lemmas.stride.ShareLemmas.{shares_stay_close}
use Rattle.share_stride.proofs.laws.shares_stay_close.Goals as goal

pub returns : goal.returns
returns c = shares_stay_close
