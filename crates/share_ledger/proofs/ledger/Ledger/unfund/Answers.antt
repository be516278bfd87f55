use Rattle.std.proofs.Common.{sym, ◌∙◌}
use Rattle.share_ledger.proofs.HolderLemmas.{ceases-to-fund, held-ticket}
use Rattle.share_ledger.proofs.StalePlaceLemmas.{ready-was}
use Rattle.share_ledger.proofs.ledger.Ledger.unfund.Goals as goal

pub route_of-backing-requires : goal.route_of-backing-requires
route_of-backing-requires c =
    held-ticket c.self.inside.tables c.args.ticket (sym c.unfund_refusal.ensures ∙ c.in_default.is)

pub take-requires-clause-begun : goal.take-requires-clause-begun
take-requires-clause-begun c =
    ceases-to-fund c.self.inside.tables c.unfund.new.self c.args.ticket c.self.inside.cache.valuation _ _
    c.unfund.ensures c.self.invariant.valuation_ready.begun c.route_of-backing.ensures.routed

pub take-requires-clause-was : goal.take-requires-clause-was
take-requires-clause-was c = ready-was _ _ _ _ _ _ _ c.self.invariant.valuation_ready
