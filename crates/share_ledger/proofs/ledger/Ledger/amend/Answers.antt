use Rattle.std.proofs.Common.{sym, ◌∙◌}
use Rattle.share_ledger.proofs.HolderLemmas.{gets-amount}
use Rattle.share_ledger.proofs.UnchangedRouteLemmas.{well_formed-amended}
use Rattle.share_ledger.proofs.StalePlaceLemmas.{ready-was}
use Rattle.share_ledger.proofs.ledger.Ledger.amend.Goals as goal

pub invariant_of-self : goal.invariant_of-self
invariant_of-self c =
    well_formed-amended c.self.inside.cache.valuation c.self.inside.cache.tickets_of_all.value c.self.inside.tables
    c.amend.new.self
    c.args.ticket c.args.amount c.amend.ensures (sym c.has_holder.ensures ∙ c.if-not-has_holder.true)
    c.self.invariant

pub amend-requires-3-clause-begun : goal.amend-requires-3-clause-begun
amend-requires-3-clause-begun c =
    gets-amount c.self.inside.tables c.amend-2.new.self c.args.ticket c.args.amount c.self.inside.cache.valuation _ _
    c.amend-2.ensures c.self.invariant.valuation_ready.begun c.route_of-backing.ensures.routed

pub amend-requires-3-clause-was : goal.amend-requires-3-clause-was
amend-requires-3-clause-was c = ready-was _ _ _ _ _ _ _ c.self.invariant.valuation_ready
