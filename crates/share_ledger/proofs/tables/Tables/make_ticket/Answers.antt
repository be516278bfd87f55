use Rattle.std.proofs.Common.{◌≡◌, ◌+◌, None, sym, subst, ◌∙◌}
use Rattle.share_model.specs.funding.Changes.{make_ticket_refusal}
use Rattle.share_model.specs.funding.WellFormed.{IsWellFormed}
use Rattle.share_model.proofs.lemmas.funding.TicketLemmas.{well_formed-make_ticket}
use Rattle.share_ledger.proofs.TableLemmas.{lay}
use Rattle.share_ledger.proofs.tables.Tables.make_ticket.Goals as goal

pub invariant_of-self-2 : goal.invariant_of-self-2
invariant_of-self-2 c =
    let tables =
    lay c.self.inside.currencies.keys c.self.inside.tickets.items c.self.inside.next_ticket
    c.self.inside.flows.entries c.self.inside.next_flow in
    let none =
    subst (λ g. make_ticket_refusal g c.args.amount c.args.currency ≡ None) (sym c.self.view_is)
    (sym c.make_ticket_refusal.ensures ∙ c.in_default.is) in
    subst (λ ts. IsWellFormed (record tables { tickets = ts; next_ticket = c.self.inside.next_ticket + 1 }))
    (sym c.in_ok-push.ensures.items)
    (well_formed-make_ticket _ c.self.invariant c.args.amount c.args.currency none)
