use Rattle.share_ledger.proofs.EquationLemmas.{kept-ready}
use Rattle.share_ledger.proofs.cache.Cache.recompute.Goals as goal

pub returns : goal.returns
returns c = kept-ready _ _ _ c.is_well_formed.ensures c.recompute.ensures.long c.recompute.ensures.ready
