use Rattle.std.proofs.Common.{◌∙◌, ap, arith, length}
use Rattle.share_gateway.specs.OpeningLeft.{seen}
use Rattle.share_gateway.proofs.OpeningLemmas.{grants-past}
use Rattle.share_gateway.proofs.openings.find_grant.Goals as goal

pub loop-index-preserved : goal.loop-index-preserved
loop-index-preserved c =
    let size = ap length c.grants.ensures in
    c.loop-index.invariant
    ∙ grants-past c.args.plan.now c.loop-index.index c.loop-index.at (seen c.grantee_at-to.result)
    c.grantee_at-to.ensures
    (omega (arith, size, c.if-at-grants.false))
