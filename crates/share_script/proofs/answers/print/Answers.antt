use Rattle.share_model.specs.io.Calls.{no_offers}
use Rattle.share_script.proofs.answers.print.Goals as goal

pub returns-in-Outcome-clause-offers : goal.returns-in-Outcome-clause-offers
returns-in-Outcome-clause-offers g c = no_offers

pub returns-in-Nothing-clause-offers : goal.returns-in-Nothing-clause-offers
returns-in-Nothing-clause-offers g c = no_offers
