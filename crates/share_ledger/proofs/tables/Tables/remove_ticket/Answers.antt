use Rattle.std.proofs.Common.{sym, ap, subst, ◌∙◌}
use Rattle.share_model.specs.funding.Changes.{is_numbered, remove_ticket}
use Rattle.share_model.specs.funding.WellFormed.{IsWellFormed}
use Rattle.share_model.proofs.lemmas.funding.TicketLemmas.{well_formed-remove_ticket}
use Rattle.share_ledger.proofs.TableLemmas.{lay}
use Rattle.share_ledger.proofs.FirstItemLemmas.{position-none, found-ticket, remove-first, remove-none}
use Rattle.share_ledger.proofs.tables.Tables.remove_ticket.Goals as goal

pub invariant_of-self : goal.invariant_of-self
invariant_of-self c =
    let tables =
    lay c.self.inside.currencies.keys c.self.inside.tickets.items c.self.inside.next_ticket
    c.self.inside.flows.entries c.self.inside.next_flow in
    let first =
    found-ticket tables _ c.args.number _ c.self.view_is c.in-Some-place_of_ticket.place
    c.place_of_ticket.ensures c.in-Some-place_of_ticket.is in
    let left =
    c.remove.ensures.items
    ∙ remove-first (is_numbered c.args.number) c.self.inside.tickets.items c.in-Some-place_of_ticket.place first in
    subst (λ ts. IsWellFormed (record tables { tickets = ts })) (sym left)
    (well_formed-remove_ticket _ c.self.invariant c.args.number)

pub returns-in-Some-place_of_ticket-clause-done : goal.returns-in-Some-place_of_ticket-clause-done
returns-in-Some-place_of_ticket-clause-done c =
    let tables =
    lay c.self.inside.currencies.keys c.self.inside.tickets.items c.self.inside.next_ticket
    c.self.inside.flows.entries c.self.inside.next_flow in
    let first =
    found-ticket tables _ c.args.number _ c.self.view_is c.in-Some-place_of_ticket.place
    c.place_of_ticket.ensures c.in-Some-place_of_ticket.is in
    let left =
    c.remove.ensures.items
    ∙ remove-first (is_numbered c.args.number) c.self.inside.tickets.items c.in-Some-place_of_ticket.place first in (
      sym c.remove_ticket_refusal.ensures ∙ c.in_default.is,
      ap (λ ts. record tables { tickets = ts }) left
          ∙ ap (λ g. remove_ticket g c.args.number) c.self.view_is,
    )

pub returns-in_default-place_of_ticket-clause-done : goal.returns-in_default-place_of_ticket-clause-done
returns-in_default-place_of_ticket-clause-done c = (
  sym c.remove_ticket_refusal.ensures ∙ c.in_default.is,
  ap (λ ts. record c.args.self.now { tickets = ts })
      (sym
      (remove-none (is_numbered c.args.number) c.args.self.now.tickets
      (position-none (is_numbered c.args.number) c.args.self.now.tickets
      (sym c.place_of_ticket.ensures ∙ c.in_default-place_of_ticket.is)))),
)
