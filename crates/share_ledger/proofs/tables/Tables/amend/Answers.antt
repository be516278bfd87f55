use Rattle.std.proofs.Common.{◌≡◌, None, List, sym, ap, subst, ◌∙◌}
use Rattle.share_model.specs.declared.funding.Ticket.{Ticket}
use Rattle.share_model.specs.funding.Graph.{Graph}
use Rattle.share_model.specs.funding.Changes.{is_numbered, with_amount, amend_refusal, amend}
use Rattle.share_model.specs.funding.WellFormed.{IsWellFormed}
use Rattle.share_model.proofs.lemmas.funding.TicketLemmas.{well_formed-amend}
use Rattle.share_ledger.proofs.TableLemmas.{lay}
use Rattle.share_ledger.proofs.FirstItemLemmas.{position-none, found-ticket, changed-first, changed-none}
use Rattle.share_ledger.proofs.tables.Tables.amend.Goals as goal

pub invariant_of-self : goal.invariant_of-self
invariant_of-self c =
    let tables =
    lay c.self.inside.currencies.keys c.self.inside.tickets.items c.self.inside.next_ticket
    c.self.inside.flows.entries c.self.inside.next_flow in
    let first =
    found-ticket tables _ c.args.number _ c.self.view_is c.in-Some.place c.place_of_ticket.ensures c.in-Some.is in
    let written =
    changed-first (is_numbered c.args.number)
    (with_amount c.args.amount) c.self.inside.tickets.items c.in-Some.place c.index_mut.result.now first
    c.index_mut.ensures.value in
    let none =
    subst (λ (g : Graph). amend_refusal g c.args.number c.args.amount ≡ None) (sym c.self.view_is) c.requires in
    subst (λ ts. IsWellFormed (record tables { tickets = ts })) (sym written)
    (well_formed-amend _ c.self.invariant c.args.number c.args.amount none)

pub returns-in-Some : goal.returns-in-Some
returns-in-Some c =
    let tables =
    lay c.self.inside.currencies.keys c.self.inside.tickets.items c.self.inside.next_ticket
    c.self.inside.flows.entries c.self.inside.next_flow in
    let first =
    found-ticket tables _ c.args.number _ c.self.view_is c.in-Some.place c.place_of_ticket.ensures c.in-Some.is in
    let written =
    changed-first (is_numbered c.args.number)
    (with_amount c.args.amount) c.self.inside.tickets.items c.in-Some.place c.index_mut.result.now first
    c.index_mut.ensures.value in
    ap (λ ts. record tables { tickets = ts }) written
    ∙ ap (λ (g : Graph). amend g c.args.number c.args.amount) c.self.view_is

pub returns-in_default : goal.returns-in_default
returns-in_default c =
    ap (λ (ts : List Ticket). record c.args.self.now { tickets = ts })
    (sym
    (changed-none (is_numbered c.args.number) (with_amount c.args.amount) c.args.self.now.tickets
    (position-none (is_numbered c.args.number) c.args.self.now.tickets
    (sym c.place_of_ticket.ensures ∙ c.in_default.is))))
