use Rattle.share_model.specs.run.Fold.{run}
use Rattle.share_model.proofs.lemmas.funding.IssueLemmas.{tickets-uncapped}
use Rattle.share_model.proofs.lemmas.run.EventLemmas.{run-sound}
use Rattle.share_model.proofs.laws.tickets_are_uncapped_of_runs.Goals as goal

pub returns : goal.returns
returns c =
    λ version life rates events range may few. tickets-uncapped (run version rates events).live.graph
    (run-sound version life rates events range may).live.funding.kept.sound few
