use Rattle.std.proofs.Common.{◌≡◌, Some, position, sym, ap, subst, ◌∙◌}
use Rattle.share_model.specs.funding.Graph.{Graph}
use Rattle.share_model.specs.funding.Changes.{is_numbered, ticket_of}
use Rattle.share_ledger.proofs.FirstItemLemmas.{find-first, find-none, position-first, position-none}
use Rattle.share_ledger.proofs.tables.Tables.ticket.Goals as goal

pub returns-in-None : goal.returns-in-None
returns-in-None c =
    sym
    (find-none (is_numbered c.args.number) c.args.self.now.tickets
    (position-none (is_numbered c.args.number) c.args.self.now.tickets (sym c.place_of_ticket.ensures ∙ c.in-None.is)))

pub returns-in-Some : goal.returns-in-Some
returns-in-Some c =
    let found =
    subst (λ (g : Graph). position (is_numbered c.args.number) g.tickets ≡ Some c.in-Some.place)
    (sym c.self.view_is) (sym c.place_of_ticket.ensures ∙ c.in-Some.is) in
    sym
    (find-first (is_numbered c.args.number) c.self.inside.tickets.items c.in-Some.place c.index.result.now
    (position-first (is_numbered c.args.number) c.self.inside.tickets.items c.in-Some.place found) c.index.ensures)
    ∙ ap (λ (g : Graph). ticket_of g c.args.number) c.self.view_is
