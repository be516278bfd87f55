use Rattle.share_ledger.proofs.EquationLemmas.{values-there}
use Rattle.share_ledger.proofs.valuation.Valuation.recompute.Goals as goal

pub revalue-requires-clause-values : goal.revalue-requires-clause-values
revalue-requires-clause-values c =
    values-there c.args.tables.now _ _ _ _ _ _ _ c.is_well_formed.ensures c.requires c.spread.ensures.counted
    c.spread.ensures.awake c.deref-2.ensures c.deref-4.ensures.value c.deref-5.ensures c.deref-6.ensures
