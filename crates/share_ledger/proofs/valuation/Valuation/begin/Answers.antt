use Rattle.std.proofs.Common.{◌≤◌, true, false, cond, nat_eq, List, sum_by, sym, subst}
use Rattle.share_ledger.specs.declared.routes.Route.{Route}
use Rattle.share_ledger.proofs.RouteBoundLemmas.{done-within}
use Rattle.share_ledger.proofs.FundingCountLemmas.{routes-few_at}
use Rattle.share_ledger.proofs.valuation.Valuation.begin.Goals as goal

pub fill-requires-clause-within : goal.fill-requires-clause-within
fill-requires-clause-within c =
    done-within c.args.tables.now c.is_well_formed.ensures true c.args.backs.now c.requires.backs

pub fill-requires-clause-room : goal.fill-requires-clause-room
fill-requires-clause-room c = λ p lt.
    subst (λ (rs : List Route). sum_by (λ (r : Route). cond (nat_eq p r.to) 1 0) rs ≤ 16) (sym c.requires.backs)
    (routes-few_at c.args.tables.now c.is_well_formed.ensures true p)

pub fill-requires-2-clause-within : goal.fill-requires-2-clause-within
fill-requires-2-clause-within c =
    done-within c.args.tables.now c.is_well_formed.ensures false c.args.funds.now c.requires.funds

pub fill-requires-2-clause-room : goal.fill-requires-2-clause-room
fill-requires-2-clause-room c = λ p lt.
    subst (λ (rs : List Route). sum_by (λ (r : Route). cond (nat_eq p r.to) 1 0) rs ≤ 16) (sym c.requires.funds)
    (routes-few_at c.args.tables.now c.is_well_formed.ensures false p)
