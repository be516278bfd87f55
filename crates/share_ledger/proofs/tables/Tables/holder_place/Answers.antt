use Rattle.std.proofs.Common.{sym, ap, subst, ◌∙◌, arith}
use Rattle.share_model.specs.funding.WellFormed.{IsHolderKnown}
use Rattle.share_ledger.specs.Routes.{holder_place}
use Rattle.share_ledger.proofs.FirstItemLemmas.{position-first, position-none, flow-first, flow-none}
use Rattle.share_ledger.proofs.RouteListLemmas.{flow-place-first, unopened}
use Rattle.share_ledger.proofs.tables.Tables.holder_place.Goals as goal

pub returns-in-Some : goal.returns-in-Some
returns-in-Some c =
    flow-place-first c.in-Flow.flow c.args.self.now.flows c.in-Some.place
    (flow-first c.in-Flow.flow c.args.self.now.flows c.in-Some.place
    (position-first _ _ c.in-Some.place (sym c.place_of_flow.ensures ∙ c.in-Some.is)))
    ∙ sym (ap (holder_place c.args.self.now) c.in-Flow.is)

pub unreachable-requires : goal.unreachable-requires
unreachable-requires c =
    let none =
    unopened c.in-Flow.flow c.args.self.now.flows
    (flow-none c.in-Flow.flow c.args.self.now.flows
    (position-none _ _ (sym c.place_of_flow.ensures ∙ c.in-None.is))) in
    let known = subst (IsHolderKnown c.args.self.now) c.in-Flow.is c.requires in
    omega (arith, none, known)
