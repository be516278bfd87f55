use Rattle.std.proofs.Common.{subst}
use Rattle.share_ledger.specs.Valuations.{ComesToFund}
use Rattle.share_ledger.proofs.valuation.Valuation.give.Goals as goal

pub add_backing-requires-clause-begun : goal.add_backing-requires-clause-begun
add_backing-requires-clause-begun c =
    subst (ComesToFund c.args.self.now c.args.tables.now c.args.route.now) c.if-backing.true c.requires.begun

pub add_funding-requires-clause-begun : goal.add_funding-requires-clause-begun
add_funding-requires-clause-begun c =
    subst (ComesToFund c.args.self.now c.args.tables.now c.args.route.now) c.if-backing.false c.requires.begun
