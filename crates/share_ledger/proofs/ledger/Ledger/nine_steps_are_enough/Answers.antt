use Rattle.share_model.proofs.lemmas.funding.InvariantLemmas.{settled}
use Rattle.share_ledger.proofs.ledger.Ledger.nine_steps_are_enough.Goals as goal

pub returns : goal.returns
returns c = settled c.args.self.now c.is_well_formed.ensures
