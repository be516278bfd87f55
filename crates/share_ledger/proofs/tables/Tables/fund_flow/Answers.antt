use Rattle.std.proofs.Common.{Option, sym, subst, ◌∙◌}
use Rattle.share_model.specs.declared.funding.Holder.TheVariants.{Flow}
use Rattle.share_model.specs.declared.funding.OpenFlow.{OpenFlow}
use Rattle.share_model.specs.funding.Changes.{flow_number, with_holder}
use Rattle.share_model.specs.funding.WellFormed.{IsWellFormed}
use Rattle.share_model.proofs.lemmas.funding.TicketLemmas.{well_formed-fund_flow}
use Rattle.share_ledger.proofs.tables.Tables.fund_flow.Goals as goal

pub give-requires : goal.give-requires
give-requires c =
    let none = sym c.fund_flow_refusal.ensures ∙ c.in_default.is in
    let found = sym c.flow_named.ensures ∙ c.in-Some-flow_named.is in
    let P : Option OpenFlow → Type 0 =
    λ o. IsWellFormed
    (record c.args.self.now { tickets = with_holder c.args.ticket (Flow (flow_number o)) c.args.self.now.tickets })
    in
    subst P found (well_formed-fund_flow c.args.self.now c.is_well_formed.ensures c.args.ticket c.args.flow none)
