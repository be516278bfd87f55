use Rattle.share_ledger.proofs.StalePlaceLemmas.{quiet-computed}
use Rattle.share_ledger.proofs.valuation.Valuation.recompute_changed.Goals as goal

pub returns-then-is_quiet-clause-ready : goal.returns-then-is_quiet-clause-ready
returns-then-is_quiet-clause-ready c =
    quiet-computed _ _ _ _ _ _ _ _ c.requires.begun c.requires.was (c.is_quiet.ensures.same c.if-is_quiet.true)
    (c.is_quiet.ensures.asleep c.if-is_quiet.true) c.share_one.ensures.tickets_of_all
