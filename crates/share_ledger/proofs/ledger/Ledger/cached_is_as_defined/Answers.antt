use Rattle.share_model.proofs.lemmas.funding.InvariantLemmas.{cached-as_defined}
use Rattle.share_ledger.proofs.ledger.Ledger.cached_is_as_defined.Goals as goal

pub returns : goal.returns
returns c = cached-as_defined c.args.self.now c.is_well_formed.ensures
