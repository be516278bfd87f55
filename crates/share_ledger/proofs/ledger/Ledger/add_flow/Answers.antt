use Rattle.std.proofs.Common.{sym, subst}
use Rattle.share_model.specs.funding.Changes.{add_flow}
use Rattle.share_ledger.specs.Cache.{IsCurrent}
use Rattle.share_ledger.specs.declared.valuation.Valuation.{Valuation}
use Rattle.share_ledger.proofs.UnchangedRouteLemmas.{well_formed-opened}
use Rattle.share_ledger.proofs.ledger.Ledger.add_flow.Goals as goal

pub invariant_of-self-2 : goal.invariant_of-self-2
invariant_of-self-2 c =
    let cache = c.self.inside.cache in
    let after = c.append_none.new.self in
    let g = c.self.inside.tables in
    subst (IsCurrent after.valuation after.tickets_of_all.value) (sym c.in_ok-flow.ensures.done.2)
    (subst (λ (valuation : Valuation). IsCurrent valuation after.tickets_of_all.value (add_flow g c.args.name))
    (sym c.append_none.ensures.left)
    (well_formed-opened cache.valuation cache.tickets_of_all.value after.tickets_of_all.value g c.args.name
    c.flow_count-count.result
    c.is_well_formed.ensures c.flow_count-count.ensures c.append_none.ensures.tickets_of_all c.append_none.ensures.first
    c.self.invariant))
