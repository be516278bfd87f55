use Rattle.share_ledger.proofs.RankLemmas.{ranks-begun}
use Rattle.share_ledger.proofs.ranks.begin.Goals as goal

pub returns-clause-ranked : goal.returns-clause-ranked
returns-clause-ranked c = ranks-begun
