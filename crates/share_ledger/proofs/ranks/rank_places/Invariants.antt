use Rattle.share_ledger.specs.Ranks.{AreRankedTo}
use Rattle.share_ledger.proofs.ranks.rank_places.Given as goal

abbrev pub invariant-loop-place : goal.invariant-loop-place
invariant-loop-place l = AreRankedTo l.backing l.edge l.ranking l.rank l.place
