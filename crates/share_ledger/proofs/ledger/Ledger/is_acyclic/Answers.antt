use Rattle.share_model.proofs.lemmas.funding.CycleLemmas.{acyclic}
use Rattle.share_ledger.proofs.ledger.Ledger.is_acyclic.Goals as goal

pub returns : goal.returns
returns c = acyclic c.args.self.now c.is_well_formed.ensures.shallow
