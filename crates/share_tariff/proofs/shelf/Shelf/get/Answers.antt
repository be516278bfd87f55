use Rattle.std.proofs.Common.{arith}
use Rattle.share_tariff.specs.Shelf.{rate_in}
use Rattle.share_tariff.proofs.ShelfLemmas.{rate_at-read}
use Rattle.share_tariff.proofs.shelf.Shelf.get.Goals as goal

pub returns : goal.returns
returns g c =
    rate_at-read rate_in c.args.self.now.tariffs.items c.args.number c.index.result.now (omega arith)
    (omega (arith, c.len.ensures)) c.index.ensures
