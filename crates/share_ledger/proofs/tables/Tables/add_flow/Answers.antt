use Rattle.std.proofs.Common.{◌≡◌, ◌+◌, None, false, bytes_eq, sym, ap, subst, ◌∙◌}
use Rattle.indexmap.proofs.CallerLemmas.{insert_entry-new}
use Rattle.share_model.specs.declared.funding.OpenFlow.{OpenFlow}
use Rattle.share_model.specs.funding.Graph.{Graph}
use Rattle.share_model.specs.funding.Changes.{add_flow_refusal, add_flow}
use Rattle.share_model.specs.funding.WellFormed.{IsWellFormed}
use Rattle.share_model.proofs.lemmas.funding.FlowLemmas.{well_formed-add_flow}
use Rattle.share_ledger.proofs.TableLemmas.{lay, fresh-flow}
use Rattle.share_ledger.proofs.tables.Tables.add_flow.Goals as goal

pub invariant_of-self-2 : goal.invariant_of-self-2
invariant_of-self-2 c =
    let tables =
    lay c.self.inside.currencies.keys c.self.inside.tickets.items c.self.inside.next_ticket
    c.self.inside.flows.entries c.self.inside.next_flow in
    let none =
    subst (λ g. add_flow_refusal g c.args.name ≡ None) (sym c.self.view_is)
    (sym c.add_flow_refusal.ensures ∙ c.in_default.is) in
    let open_flow : OpenFlow = record { number = c.self.inside.next_flow; active = false } in
    let entries =
    c.in_ok-insert.ensures.entries
    ∙ insert_entry-new bytes_eq c.self.inside.flows c.args.name open_flow
    (fresh-flow tables c.args.name none) in
    subst (λ es. IsWellFormed (record tables { flows = es; next_flow = c.self.inside.next_flow + 1 }))
    (sym entries)
    (well_formed-add_flow _ c.self.invariant c.args.name none)

pub returns-clause-done : goal.returns-clause-done
returns-clause-done c =
    let tables =
    lay c.self.inside.currencies.keys c.self.inside.tickets.items c.self.inside.next_ticket
    c.self.inside.flows.entries c.self.inside.next_flow in
    let none = sym c.add_flow_refusal.ensures ∙ c.in_default.is in
    let open_flow : OpenFlow = record { number = c.self.inside.next_flow; active = false } in
    let entries =
    c.in_ok-insert.ensures.entries
    ∙ insert_entry-new bytes_eq c.self.inside.flows c.args.name open_flow
    (fresh-flow tables c.args.name
    (subst (λ g. add_flow_refusal g c.args.name ≡ None) (sym c.self.view_is) none)) in (
      none,
      ap (λ (g : Graph). g.next_flow) c.self.view_is,
      ap (λ es. record tables { flows = es; next_flow = c.self.inside.next_flow + 1 }) entries
          ∙ ap (λ g. add_flow g c.args.name) c.self.view_is,
    )
