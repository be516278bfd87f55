use Rattle.share_model.proofs.lemmas.funding.ShareLemmas.{shares-within}
use Rattle.share_ledger.proofs.ledger.Ledger.shares_are_within.Goals as goal

pub returns : goal.returns
returns c = shares-within c.args.self.now c.is_well_formed.ensures.sound
