use Rattle.std.proofs.Common.{sym, subst, ◌∙◌}
use Rattle.share_ledger.specs.Cache.{IsCurrent}
use Rattle.share_ledger.proofs.ClosedFlowLemmas.{well_formed-closed}
use Rattle.share_ledger.proofs.ledger.Ledger.remove_flow.Goals as goal

pub invariant_of-self : goal.invariant_of-self
invariant_of-self c =
    let g = c.self.inside.tables in
    let cache = c.self.inside.cache in
    subst (IsCurrent cache.valuation cache.tickets_of_all.value) (sym c.remove_flow.ensures)
    (well_formed-closed cache.valuation cache.tickets_of_all.value g c.args.flow c.in-Some.place
    c.is_well_formed.ensures
    c.is_idle.ensures.long
    (sym c.place_of_flow-place.ensures ∙ c.in-Some.is) (c.is_idle.ensures.idle c.if-is_idle.true) c.self.invariant)
