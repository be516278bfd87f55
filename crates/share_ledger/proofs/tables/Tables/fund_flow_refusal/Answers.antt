use Rattle.std.proofs.Common.{◌≡◌, ◌≤◌, Some, is_some, sym, ap, subst, ◌∙◌}
use Rattle.share_model.proofs.lemmas.funding.RefusalLemmas.{found-open}
use Rattle.share_model.specs.funding.Changes.{flow_named, flow_number}
use Rattle.share_model.specs.funding.WellFormed.{times_open}
use Rattle.share_ledger.proofs.tables.Tables.fund_flow_refusal.Goals as goal

pub count_funding-requires-clause-open : goal.count_funding-requires-clause-open
count_funding-requires-clause-open c =
    let g = c.args.self.now in
    let named : flow_named g c.args.flow ≡ Some c.in-Some-flow_named.open =
    sym c.flow_named.ensures ∙ c.in-Some-flow_named.is in
    subst (λ o. 1 ≤ times_open (flow_number o) g.flows) named (found-open c.args.flow g.flows (ap is_some named))
