use Rattle.std.proofs.Common.{map, sym, ap, subst, ◌∙◌}
use Rattle.share_model.specs.funding.Changes.{is_open_as, release_from, remove_flow}
use Rattle.share_model.specs.funding.WellFormed.{IsWellFormed}
use Rattle.share_model.proofs.lemmas.funding.FlowLemmas.{well_formed-remove_flow}
use Rattle.share_ledger.proofs.TableLemmas.{lay, written-whole}
use Rattle.share_ledger.proofs.FirstItemLemmas.{found-flow, no-flow, remove-first}
use Rattle.share_ledger.proofs.FirstItemLemmas.{remove-none}
use Rattle.share_ledger.proofs.tables.Tables.remove_flow.Goals as goal

pub invariant_of-self : goal.invariant_of-self
invariant_of-self c =
    let tables =
    lay c.self.inside.currencies.keys c.self.inside.tickets.items c.self.inside.next_ticket
    c.self.inside.flows.entries c.self.inside.next_flow in
    let first = found-flow tables _ c.args.flow _ c.self.view_is c.in-Some.place c.place_of_flow-place.ensures
    c.in-Some.is in
    let left =
    c.shift_remove_index.ensures.entries
    ∙ remove-first (is_open_as c.args.flow) c.self.inside.flows.entries c.in-Some.place first in
    let tickets =
    written-whole
    (release_from c.args.flow) c.self.inside.tickets.items c.release.new.tickets c.deref_mut.result.now
    c.self.inside.tickets.len c.release.ensures c.deref_mut.ensures.value c.self.inside.tickets.ok.0 in
    subst (λ ts. IsWellFormed (record tables { tickets = ts; flows = c.shift_remove_index.new.self.entries }))
    (sym tickets)
    (subst
    (λ es. IsWellFormed
    (record tables { tickets = map (release_from c.args.flow) c.self.inside.tickets.items; flows = es }))
    (sym left)
    (well_formed-remove_flow _ c.self.invariant c.args.flow))

pub invariant_of-self-in_default : goal.invariant_of-self-in_default
invariant_of-self-in_default c =
    let tables =
    lay c.self.inside.currencies.keys c.self.inside.tickets.items c.self.inside.next_ticket
    c.self.inside.flows.entries c.self.inside.next_flow in
    let none = no-flow tables _ c.args.flow _ c.self.view_is c.place_of_flow-place.ensures c.in_default.is in
    let left = sym (remove-none (is_open_as c.args.flow) c.self.inside.flows.entries none) in
    let tickets =
    written-whole
    (release_from c.args.flow) c.self.inside.tickets.items c.release.new.tickets c.deref_mut.result.now
    c.self.inside.tickets.len c.release.ensures c.deref_mut.ensures.value c.self.inside.tickets.ok.0 in
    subst (λ ts. IsWellFormed (record tables { tickets = ts })) (sym tickets)
    (subst
    (λ es. IsWellFormed
    (record tables { tickets = map (release_from c.args.flow) c.self.inside.tickets.items; flows = es }))
    (sym left)
    (well_formed-remove_flow _ c.self.invariant c.args.flow))

pub returns-in-Some : goal.returns-in-Some
returns-in-Some c =
    let tables =
    lay c.self.inside.currencies.keys c.self.inside.tickets.items c.self.inside.next_ticket
    c.self.inside.flows.entries c.self.inside.next_flow in
    let first = found-flow tables _ c.args.flow _ c.self.view_is c.in-Some.place c.place_of_flow-place.ensures
    c.in-Some.is in
    let left =
    c.shift_remove_index.ensures.entries
    ∙ remove-first (is_open_as c.args.flow) c.self.inside.flows.entries c.in-Some.place first in
    let tickets =
    written-whole
    (release_from c.args.flow) c.self.inside.tickets.items c.release.new.tickets c.deref_mut.result.now
    c.self.inside.tickets.len c.release.ensures c.deref_mut.ensures.value c.self.inside.tickets.ok.0 in
    ap (λ ts. record tables { tickets = ts; flows = c.shift_remove_index.new.self.entries }) tickets
    ∙ ap
    (λ es. record
    tables { tickets = map (release_from c.args.flow) c.self.inside.tickets.items; flows = es }) left
    ∙ ap (λ g. remove_flow g c.args.flow) c.self.view_is

pub returns-in_default : goal.returns-in_default
returns-in_default c =
    let tables =
    lay c.self.inside.currencies.keys c.self.inside.tickets.items c.self.inside.next_ticket
    c.self.inside.flows.entries c.self.inside.next_flow in
    let none = no-flow tables _ c.args.flow _ c.self.view_is c.place_of_flow-place.ensures c.in_default.is in
    let left = sym (remove-none (is_open_as c.args.flow) c.self.inside.flows.entries none) in
    let tickets =
    written-whole
    (release_from c.args.flow) c.self.inside.tickets.items c.release.new.tickets c.deref_mut.result.now
    c.self.inside.tickets.len c.release.ensures c.deref_mut.ensures.value c.self.inside.tickets.ok.0 in
    ap (λ ts. record tables { tickets = ts }) tickets
    ∙ ap
    (λ es. record
    tables { tickets = map (release_from c.args.flow) c.self.inside.tickets.items; flows = es }) left
    ∙ ap (λ g. remove_flow g c.args.flow) c.self.view_is
