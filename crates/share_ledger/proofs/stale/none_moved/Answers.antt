use Rattle.share_ledger.proofs.FundingSourceLemmas.{none-flagged}
use Rattle.share_ledger.proofs.stale.none_moved.Goals as goal

pub returns : goal.returns
returns c = none-flagged
