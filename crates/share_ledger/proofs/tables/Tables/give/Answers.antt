use Rattle.std.proofs.Common.{List, sym, ap, subst, ◌∙◌}
use Rattle.share_model.specs.declared.funding.Ticket.{Ticket}
use Rattle.share_model.specs.funding.Graph.{Graph}
use Rattle.share_model.specs.funding.Changes.{is_numbered, with_its_holder, with_holder}
use Rattle.share_model.specs.funding.WellFormed.{IsWellFormed}
use Rattle.share_ledger.proofs.TableLemmas.{lay}
use Rattle.share_ledger.proofs.FirstItemLemmas.{position-none, found-ticket, changed-first, changed-none}
use Rattle.share_ledger.proofs.tables.Tables.give.Goals as goal

pub invariant_of-self : goal.invariant_of-self
invariant_of-self c =
    let tables =
    lay c.self.inside.currencies.keys c.self.inside.tickets.items c.self.inside.next_ticket
    c.self.inside.flows.entries c.self.inside.next_flow in
    let first =
    found-ticket tables _ c.args.number _ c.self.view_is c.in-Some.place c.place_of_ticket.ensures c.in-Some.is in
    let written =
    changed-first (is_numbered c.args.number)
    (with_its_holder c.args.holder.now) c.self.inside.tickets.items c.in-Some.place c.index_mut.result.now first
    c.index_mut.ensures.value in
    subst (λ ts. IsWellFormed (record tables { tickets = ts })) (sym written)
    (subst (λ (g : Graph). IsWellFormed (record g { tickets = with_holder c.args.number c.args.holder.now g.tickets }))
    (sym c.self.view_is) c.requires)

pub returns-in-Some : goal.returns-in-Some
returns-in-Some c =
    let tables =
    lay c.self.inside.currencies.keys c.self.inside.tickets.items c.self.inside.next_ticket
    c.self.inside.flows.entries c.self.inside.next_flow in
    let first =
    found-ticket tables _ c.args.number _ c.self.view_is c.in-Some.place c.place_of_ticket.ensures c.in-Some.is in
    let written =
    changed-first (is_numbered c.args.number)
    (with_its_holder c.args.holder.now) c.self.inside.tickets.items c.in-Some.place c.index_mut.result.now first
    c.index_mut.ensures.value in
    ap (λ ts. record tables { tickets = ts }) written
    ∙ ap (λ (g : Graph). record g { tickets = with_holder c.args.number c.args.holder.now g.tickets }) c.self.view_is

pub returns-in_default : goal.returns-in_default
returns-in_default c =
    ap (λ (ts : List Ticket). record c.args.self.now { tickets = ts })
    (sym
    (changed-none (is_numbered c.args.number) (with_its_holder c.args.holder.now) c.args.self.now.tickets
    (position-none (is_numbered c.args.number) c.args.self.now.tickets
    (sym c.place_of_ticket.ensures ∙ c.in_default.is))))
