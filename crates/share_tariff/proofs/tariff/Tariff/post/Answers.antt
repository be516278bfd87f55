use Rattle.share_tariff.proofs.tariff.Tariff.post.Goals as goal

pub returns : goal.returns
returns g c =
    (c.args.self.now.books c.args.account c.args.units c.requires.account c.requires.units).1
    c.call_book.result c.call_book.ensures
