use Rattle.std.proofs.Common.{◌≡◌}
use Rattle.share_gateway.specs.OpeningLeft.{grants_after}
use Rattle.share_gateway.proofs.openings.find_grant.Given as goal

abbrev pub invariant-loop-index : goal.invariant-loop-index
invariant-loop-index l = grants_after l.plan l.grantee l.grant ≡ grants_after l.plan l.index l.at
