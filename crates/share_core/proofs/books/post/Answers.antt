use Rattle.std.proofs.Common.{arith}
use Rattle.share_model.proofs.lemmas.run.SoundLinkLemmas.{units-few, rate_of-in_range}
use Rattle.share_model.specs.link.Tariff.{rate_of}
use Rattle.share_core.proofs.books.post.Goals as goal

pub post-book-requires-clause-units : goal.post-book-requires-clause-units
post-book-requires-clause-units g c =
    let rates = g.S.Rates.rates c.args.shelf.now in
    let few = units-few (rate_of rates c.args.book.now.tariff) c.args.count
    (rate_of-in_range rates c.args.book.now.tariff (g.met.S.Rates.in_range c.args.shelf.now)) c.requires.few in
    omega (arith, c.units-units.ensures, few)
