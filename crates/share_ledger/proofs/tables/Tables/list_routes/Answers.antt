use Rattle.std.proofs.Common.{refl, arith}
use Rattle.share_ledger.specs.Routes.{routes_of}
use Rattle.share_ledger.proofs.RouteListLemmas.{listed-more, listed-skip}
use Rattle.share_ledger.proofs.tables.Tables.list_routes.Goals.{then-is_kind, else-is_kind}
use Rattle.share_ledger.proofs.tables.Tables.list_routes.Goals as goal
use Rattle.std.proofs.lemmas.Bool.Decides.{nat_tests}

pub loop-i-init : goal.loop-i-init
unfolding routes_of
loop-i-init c = record { long = c.told-routes; behind = omega arith; listed = refl }

pub loop-i-preserved : goal.loop-i-preserved
loop-i-preserved c = grind (arith, nat_tests, then-is_kind, listed-more, else-is_kind, listed-skip)
