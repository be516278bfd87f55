use Rattle.share_ingress.proofs.QueueOrderLemmas.{forks}
use Rattle.share_ingress.proofs.ends.another_end.Goals as goal

pub another-own-requires-clause-rule : goal.another-own-requires-clause-rule
another-own-requires-clause-rule c = forks _ _ _ _ _ _ c.requires.known.2
