use Rattle.share_model.proofs.lemmas.run.ShareLemmas.{run-shares}
use Rattle.share_model.proofs.laws.shares_of_runs.Goals as goal

pub returns : goal.returns
returns c = run-shares
