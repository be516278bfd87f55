use Rattle.share_tariff.proofs.tariff.Tariff.units.Goals as goal

pub returns : goal.returns
returns g c = (c.args.self.now.charges c.args.count c.requires).1 c.call_charge.result c.call_charge.ensures
