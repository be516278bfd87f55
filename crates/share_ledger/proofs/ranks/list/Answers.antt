use Rattle.std.proofs.Common.{◌≡◌, subst, arith}
use Rattle.share_ledger.specs.Ranks.{AreRankedTo}
use Rattle.share_ledger.proofs.RankLemmas.{next-round, all-ranks, all-longest, all-more, all-listed, some-deep}
use Rattle.share_ledger.proofs.ranks.list.Goals as goal
use Rattle.std.proofs.lemmas.Bool.Decides.{nat_tests}

pub loop-rank-init : goal.loop-rank-init
loop-rank-init c = record {
  ranked = c.begin-ranking.ensures.ranked c.args.backing.now c.args.edge c.requires.to_place;
  some_left = λ e. absurd (omega (arith, c.begin-ranking.ensures.one));
}

pub loop-rank-preserved : goal.loop-rank-preserved
loop-rank-preserved c = grind (arith, nat_tests, next-round)

pub returns-then-ranking-eq-PLACES-clause-ranked : goal.returns-then-ranking-eq-PLACES-clause-ranked
returns-then-ranking-eq-PLACES-clause-ranked c =
    all-ranks c.args.backing.now c.args.edge c.rank_places.new.ranking c.loop-rank.rank c.rank_places.ensures
    c.if-ranking-eq-PLACES.true

pub returns-then-ranking-eq-PLACES-clause-longest : goal.returns-then-ranking-eq-PLACES-clause-longest
returns-then-ranking-eq-PLACES-clause-longest c =
    all-longest c.args.backing.now c.args.edge c.rank_places.new.ranking c.loop-rank.rank c.rank_places.ensures
    c.if-ranking-eq-PLACES.true

pub returns-then-ranking-eq-PLACES-clause-more : goal.returns-then-ranking-eq-PLACES-clause-more
returns-then-ranking-eq-PLACES-clause-more c =
    all-more c.args.backing.now c.args.edge c.rank_places.new.ranking c.loop-rank.rank c.rank_places.ensures
    c.if-ranking-eq-PLACES.true c.requires.to_place

pub returns-then-ranking-eq-PLACES-clause-listed : goal.returns-then-ranking-eq-PLACES-clause-listed
returns-then-ranking-eq-PLACES-clause-listed c =
    all-listed c.args.backing.now c.args.edge c.rank_places.new.ranking c.loop-rank.rank c.rank_places.ensures
    c.if-ranking-eq-PLACES.true

pub returns-clause-deep : goal.returns-clause-deep
returns-clause-deep c = λ _.
    some-deep c.args.backing.now c.args.edge c.loop-rank.ranking
    (subst (λ n. AreRankedTo c.args.backing.now c.args.edge c.loop-rank.ranking n 1) last c.loop-rank.invariant.ranked)
    c.loop-rank.invariant.some_left
  where
    last : c.loop-rank.rank ≡ 9
    last = let end = c.loop-rank.auto.rank-end (omega arith) in let test = c.loop-rank-test.false in omega arith
