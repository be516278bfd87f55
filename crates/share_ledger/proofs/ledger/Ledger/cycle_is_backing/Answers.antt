use Rattle.share_model.proofs.lemmas.funding.DeepFundingLemmas.{cycle-is-backing}
use Rattle.share_ledger.proofs.ledger.Ledger.cycle_is_backing.Goals as goal

pub returns : goal.returns
returns c = cycle-is-backing c.args.self.now c.is_well_formed.ensures.shallow
