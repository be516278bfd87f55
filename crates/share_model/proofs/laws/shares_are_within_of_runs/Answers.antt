use Rattle.share_model.specs.run.Fold.{run}
use Rattle.share_model.proofs.lemmas.run.EventLemmas.{run-sound}
use Rattle.share_model.proofs.lemmas.funding.ShareLemmas.{shares-within}
use Rattle.share_model.proofs.laws.shares_are_within_of_runs.Goals as goal

pub returns : goal.returns
returns c =
    λ version life rates events range may. shares-within (run version rates events).live.graph
    (run-sound version life rates events range may).live.funding.kept.sound
