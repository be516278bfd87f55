use Rattle.share_lives.proofs.TariffLemmas.{tariffs-refused}
use Rattle.share_lives.proofs.life.tariffs_of.Goals as goal

pub returns-then-not-add-clause-not : goal.returns-then-not-add-clause-not
returns-then-not-add-clause-not c =
    tariffs-refused c.args.rates.now c.rates.tariffs c.rates.index _ c.book_tariff-tariff.result c.add.result
    c.rates-test.true c.book_tariff-tariff.ensures c.rates.invariant c.if-not-add.true c.add.ensures.test.1
