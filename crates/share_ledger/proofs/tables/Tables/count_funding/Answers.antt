use Rattle.std.proofs.Common.{sym, ◌∙◌, arith}
use Rattle.share_ledger.proofs.FirstItemLemmas.{position-first, position-none, flow-first, flow-none}
use Rattle.share_ledger.proofs.RouteListLemmas.{flow-place-first, unopened}
use Rattle.share_ledger.proofs.RouteWorthLemmas.{flow-place-below}
use Rattle.share_ledger.proofs.FundingCountLemmas.{first-open, funding-count}
use Rattle.share_ledger.proofs.tables.Tables.count_funding.Goals as goal
use Rattle.std.proofs.lemmas.Bool.Decides.{nat_tests}

pub unreachable-requires : goal.unreachable-requires
unreachable-requires c =
    let none =
    unopened c.args.flow c.args.self.now.flows
    (flow-none c.args.flow c.args.self.now.flows
    (position-none _ _ (sym c.place_of_flow.ensures ∙ c.in_default.is))) in
    omega (arith, none, c.requires.open)

pub funding_tickets_at-requires-clause-place : goal.funding_tickets_at-requires-clause-place
funding_tickets_at-requires-clause-place c =
    let g = c.args.self.now in
    let first = flow-first c.args.flow g.flows c.in-Some.place
    (position-first _ _ c.in-Some.place (sym c.place_of_flow.ensures ∙ c.in-Some.is)) in
    let under = flow-place-below c.args.flow g.flows (first-open c.args.flow g.flows c.in-Some.place first) in
    let at = flow-place-first c.args.flow g.flows c.in-Some.place first in
    omega (arith, c.is_well_formed.ensures.few_flows)

pub returns : goal.returns
returns c = grind (arith, nat_tests, funding-count, flow-first, position-first)
