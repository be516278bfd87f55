use Rattle.std.proofs.Common.{◌≡◌}
use Rattle.share_ledger.specs.Ranks.{AreRankedTo}
use Rattle.share_ledger.proofs.ranks.list.Given as goal

abbrev pub invariant-loop-rank : goal.invariant-loop-rank
invariant-loop-rank l = record {
  ranked : AreRankedTo l.backing l.edge l.ranking l.rank 1;
  some_left : l.ranking.count ≡ 65 → ⊥;
}
