use Rattle.std.proofs.Common.{◌≡◌, ℕ, Bool, true, false, nat_eq, None, refl, sym, ap, subst}
use Rattle.std.proofs.Common.{◌∙◌}
use Rattle.std.specs.Bool.{then_some}
use Rattle.std.proofs.lemmas.Option.{get_or_from_slice_get}
use Rattle.share_model.specs.declared.funding.OpenFlow.{OpenFlow}
use Rattle.share_model.specs.funding.Changes.{is_open_as, active_as, set_active}
use Rattle.share_model.specs.funding.WellFormed.{IsWellFormed}
use Rattle.share_model.proofs.lemmas.funding.FlowLemmas.{well_formed-set_active}
use Rattle.share_ledger.proofs.FlowTicketLemmas.{stands-so, activity-left}
use Rattle.share_ledger.proofs.TableLemmas.{lay}
use Rattle.share_ledger.proofs.FirstItemLemmas.{position-none, flow-none, found-flow, activity-first}
use Rattle.share_ledger.proofs.FirstItemLemmas.{changed-none}
use Rattle.share_ledger.proofs.tables.Tables.set_active.Goals as goal

pub invariant_of-self : goal.invariant_of-self
invariant_of-self c =
    let tables =
    lay c.self.inside.currencies.keys c.self.inside.tickets.items c.self.inside.next_ticket
    c.self.inside.flows.entries c.self.inside.next_flow in
    let first = found-flow tables _ c.args.flow _ c.self.view_is c.in-Some.place c.place_of_flow.ensures c.in-Some.is in
    let open_flow = c.in-Some-get_index_mut.open.now in
    let source = sym (get_or_from_slice_get _ c.in-Some.place open_flow open_flow
    (sym c.in-Some-get_index_mut.ensures.value)) in
    let written =
    activity-first c.args.flow c.args.active c.self.inside.flows.entries c.in-Some.place open_flow first source in
    subst (λ es. IsWellFormed (record tables { flows = es })) (sym written)
    (well_formed-set_active _ c.self.invariant c.args.flow c.args.active)

pub returns-in-Some-get_index_mut-clause-change : goal.returns-in-Some-get_index_mut-clause-change
returns-in-Some-get_index_mut-clause-change c =
    let tables =
    lay c.self.inside.currencies.keys c.self.inside.tickets.items c.self.inside.next_ticket
    c.self.inside.flows.entries c.self.inside.next_flow in
    let first = found-flow tables _ c.args.flow _ c.self.view_is c.in-Some.place c.place_of_flow.ensures c.in-Some.is in
    let open_flow = c.in-Some-get_index_mut.open.now in
    let source = sym (get_or_from_slice_get _ c.in-Some.place open_flow open_flow
    (sym c.in-Some-get_index_mut.ensures.value)) in
    let written =
    activity-first c.args.flow c.args.active c.self.inside.flows.entries c.in-Some.place open_flow first source in
    ap (λ es. record tables { flows = es }) written
    ∙ ap (λ g. set_active g c.args.flow c.args.active) c.self.view_is

pub returns-in_default-clause-change : goal.returns-in_default-clause-change
returns-in_default-clause-change c =
    let test = λ (o : OpenFlow). nat_eq c.args.flow o.number in
    let none =
    flow-none c.args.flow c.args.self.now.flows
    (position-none test _ (sym c.place_of_flow.ensures ∙ c.in_default.is)) in
    ap (λ es. record c.args.self.now { flows = es })
    (sym (changed-none (is_open_as c.args.flow) (active_as c.args.active) c.args.self.now.flows none))

-- a place is returned if the activity changed
still-so : (news : Bool) (place : ℕ) → then_some news place ≡ None → news ≡ false
still-so true place e = cc
still-so false place e = refl

pub returns-in-Some-get_index_mut-clause-still : goal.returns-in-Some-get_index_mut-clause-still
returns-in-Some-get_index_mut-clause-still c = λ still.
    let tables =
    lay c.self.inside.currencies.keys c.self.inside.tickets.items c.self.inside.next_ticket
    c.self.inside.flows.entries c.self.inside.next_flow in
    let first = found-flow tables _ c.args.flow _ c.self.view_is c.in-Some.place c.place_of_flow.ensures c.in-Some.is in
    let open_flow = c.in-Some-get_index_mut.open.now in
    let source = sym (get_or_from_slice_get _ c.in-Some.place open_flow open_flow
    (sym c.in-Some-get_index_mut.ensures.value)) in
    ap (λ es. record tables { flows = es })
    (activity-left c.self.inside.flows.entries c.in-Some.place open_flow (is_open_as c.args.flow) c.args.active first
    source (stands-so open_flow.active c.args.active (still-so _ _ (sym c.then_some.ensures ∙ still))))
    ∙ c.self.view_is
