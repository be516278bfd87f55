use Rattle.share_ledger.proofs.StalePlaceLemmas.{lefts-was}
use Rattle.share_ledger.proofs.cache.Cache.take.Goals as goal

pub follow-requires-clause-was : goal.follow-requires-clause-was
follow-requires-clause-was c = lefts-was _ _ _ _ _ c.requires.was c.take.ensures.left
