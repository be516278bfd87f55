-- The routes of the tickets are within their places, and few.
use Rattle.std.proofs.Common.{◌≡◌, ◌≤◌, Bool, List, length, sym, subst, arith}
use Rattle.share_model.specs.funding.Graph.{Graph}
use Rattle.share_model.specs.funding.WellFormed.{IsWellFormed}
use Rattle.share_model.specs.lists.Each.{Each}
use Rattle.share_ledger.specs.declared.routes.Route.{Route}
use Rattle.share_ledger.specs.Routes.{routes_of, IsRouteWithin}
use Rattle.share_ledger.proofs.RouteListLemmas.{routes-within, routes-few}
use Rattle.std.proofs.lemmas.Bool.Decides.{nat_tests}

-- Routes that are those of the tickets
module _ (g : Graph) (ok : IsWellFormed g) (b : Bool) (rs : List Route) (are : rs ≡ routes_of g b g.tickets) where
  pub done-within : Each IsRouteWithin rs
  done-within = subst (Each IsRouteWithin) (sym are) (routes-within g b ok)

  pub done-few : length rs ≤ 1024
  done-few = grind (arith, nat_tests, routes-few)
