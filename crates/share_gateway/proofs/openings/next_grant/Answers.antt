use Rattle.std.proofs.Common.{◌∙◌, ap, sym, arith, length}
use Rattle.std.specs.Prelude.{slice_get, List}
use Rattle.share_gateway.specs.declared.plan.Grant.{Grant}
use Rattle.share_gateway.proofs.OpeningLemmas.{get-item, left-grant, fit-grant}
use Rattle.share_gateway.proofs.openings.next_grant.Goals as goal

pub returns-clause-next : goal.returns-clause-next
returns-clause-next c =
    let size = ap length c.grants.ensures in
    let is = ap (λ (gs : List Grant). slice_get gs c.in_ok-found.found.grant) (sym c.grants.ensures)
    ∙ get-item c.grants.result.now c.in_ok-found.found.grant c.index-grants-found.result
    (omega (arith, size, c.in_ok-found.ensures.within)) c.index-grants-found.is in
    left-grant c.args.plan.now c.args.cursor.now c.in_ok-found.found c.index-grants-found.result
    c.grant_commands-group.result c.in_ok-found.ensures is c.grant_commands-group.ensures

pub returns-clause-fit : goal.returns-clause-fit
returns-clause-fit c =
    let size = ap length c.grants.ensures in
    let is = ap (λ (gs : List Grant). slice_get gs c.in_ok-found.found.grant) (sym c.grants.ensures)
    ∙ get-item c.grants.result.now c.in_ok-found.found.grant c.index-grants-found.result
    (omega (arith, size, c.in_ok-found.ensures.within)) c.index-grants-found.is in
    fit-grant c.args.plan.now c.args.cursor.now c.in_ok-found.found c.index-grants-found.result
    c.in_ok-found.ensures is c.requires
