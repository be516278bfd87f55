use Rattle.share_lives.proofs.LifeLemmas.{life-loses}
use Rattle.share_lives.proofs.RemainderLemmas.{counts-tenants}
use Rattle.share_lives.proofs.laws.lives_lose_nothing.Goals as goal

pub returns-clause-order : goal.returns-clause-order
returns-clause-order c = life-loses c.books_lose_nothing.ensures.order c.books_lose_nothing.ensures.cut

pub returns-clause-counted : goal.returns-clause-counted
returns-clause-counted c = counts-tenants
