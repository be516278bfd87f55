use Rattle.std.proofs.Common.{◌≡◌, Some, map, nat_eq, position, sym, ◌∙◌, subst}
use Rattle.share_model.specs.declared.funding.OpenFlow.{OpenFlow}
use Rattle.share_model.specs.funding.Graph.{NameBytes, Graph, tickets}
use Rattle.share_ledger.proofs.FlowTicketLemmas.{tickets-found, tickets-missing}
use Rattle.share_ledger.proofs.ledger.Ledger.tickets.Goals as goal

pub returns-in-Some : goal.returns-in-Some
returns-in-Some c =
    let stands_at : Graph → Type 0 = λ g.
    position (λ (o : OpenFlow). nat_eq c.args.flow o.number) (map (λ (e : NameBytes × OpenFlow). e.1) g.flows)
    ≡ Some c.in-Some.place in
    tickets-found c.args.self.now c.args.flow c.in-Some.place c.tickets_at.result
    (subst stands_at c.self.view_is (sym c.place_of_flow.ensures ∙ c.in-Some.is)) c.tickets_at.ensures

pub returns-in-None : goal.returns-in-None
returns-in-None c =
    let none : Graph → Type 0 = λ g. 0 ≡ tickets g c.args.flow in
    subst none c.self.view_is
    (tickets-missing c.self.inside.tables c.args.flow (sym c.place_of_flow.ensures ∙ c.in-None.is))
