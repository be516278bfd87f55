use Rattle.std.proofs.Common.{subst}
use Rattle.share_ledger.specs.Valuations.{CeasesToFund}
use Rattle.share_ledger.proofs.valuation.Valuation.take.Goals as goal

pub take_backing-requires-clause-begun : goal.take_backing-requires-clause-begun
take_backing-requires-clause-begun c =
    subst (CeasesToFund c.args.self.now c.args.tables.now c.args.route.now) c.if-backing.true c.requires.begun

pub take_funding-requires-clause-begun : goal.take_funding-requires-clause-begun
take_funding-requires-clause-begun c =
    subst (CeasesToFund c.args.self.now c.args.tables.now c.args.route.now) c.if-backing.false c.requires.begun
