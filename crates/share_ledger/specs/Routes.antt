-- Routes: tickets that have a holder, each from the place of its denomination to that of its holder; and rounds over
-- them.
use Rattle.std.specs.Prelude.{◌≡◌, ◌≤◌, ◌<◌, ℕ, ◌*◌, ◌/◌, ◌^◌, zero, suc, Bool, true, false, not, ◌&&◌, List, []}
use Rattle.std.specs.Prelude.{◌∷◌, map, Some, filter, sum_by, nat_eq, if◌then◌else◌}
use Rattle.share_ledger.specs.declared.routes.Route.{Route}
use Rattle.share_ledger.specs.Places.{place}
use Rattle.share_model.specs.declared.funding.Holder.{Holder}
use Rattle.share_model.specs.declared.funding.Holder.TheVariants.{Nobody, Currency, Flow}
use Rattle.share_model.specs.declared.funding.Ticket.{Ticket}
use Rattle.share_model.specs.declared.funding.OpenFlow.{OpenFlow}
use Rattle.share_model.specs.funding.Graph.{NameBytes, Graph}
use Rattle.share_model.specs.funding.Changes.{ticket_of, has_holder}
use Rattle.share_model.specs.funding.WellFormed.{names_of}

-- the place of the flow of a number, or the number of flows if there is none
unfoldable pub flow_place : List (NameBytes × OpenFlow) → ℕ → ℕ
flow_place [] f = 0
flow_place (e ∷ es) f = if nat_eq f e.1.number then 0 else suc (flow_place es f)

-- the place of a holder, among the currencies or among the flows
abbrev pub holder_place : Graph → Holder → ℕ
holder_place g Nobody = 0
holder_place g (Currency c) = place (names_of g) c
holder_place g (Flow f) = flow_place g.flows f

abbrev pub route_of : Graph → Ticket → Route
route_of g t = record {
  from = place (names_of g) t.denomination;
  to = holder_place g t.holder;
  amount = t.amount;
}

-- the route with another amount
abbrev pub amended : ℕ → Route → Route
amended amount r = record r { amount = amount }

-- whether a holder is a currency, or whether it is a flow
abbrev pub is_kind : Bool → Holder → Bool
is_kind backing Nobody = false
is_kind backing (Currency c) = backing
is_kind backing (Flow f) = not backing

-- the routes of the tickets that back currencies, or of those that fund flows
unfoldable pub routes_of : Graph → Bool → List Ticket → List Route
routes_of g backing ts = map (route_of g) (filter (λ t. is_kind backing t.holder) ts)

-- the route of the ticket of a number, which has a holder, and whether the holder is a currency
abbrev pub IsRouted : Graph → ℕ → Route → Bool → Type 0
IsRouted g n r backing = (t : Ticket) × ((ticket_of g n ≡ Some t) × (r ≡ route_of g t) × (has_holder t.holder ≡ true)
    × (backing ≡ is_kind true t.holder))

-- there are 65 places of currencies, and 64 of flows
pub record IsRouteWithin (r : Route) : Type 0 where
  pub from_place : r.from < 65
  pub to_place : r.to < 65
  pub small : r.amount ≤ 2 ^ 20

-- the amounts of the routes from a place to flagged places
unfoldable pub weight_from : List Route → (ℕ → Bool) → ℕ → ℕ
weight_from rs flag p = sum_by (λ r. if nat_eq p r.from && flag r.to then r.amount else 0) rs

-- the value that a route carries: its amount from the place of `base`, otherwise its share of the value of its place
abbrev pub carried_by : (ℕ → ℕ) → (ℕ → ℕ) → Route → ℕ
carried_by value whole r = if nat_eq r.from 0 then r.amount else value r.from * r.amount / whole r.from

-- the values that the routes carry to a place, if it is flagged
unfoldable pub value_to : List Route → (ℕ → Bool) → (Route → ℕ) → ℕ → ℕ
value_to rs flag carry p = sum_by (λ r. if nat_eq p r.to && flag r.to then carry r else 0) rs

-- the values of places after n rounds
unfoldable pub value_after : List Route → (ℕ → Bool) → (ℕ → ℕ) → ℕ → ℕ → ℕ
value_after rs flag whole zero p = 0
value_after rs flag whole (suc n) p = value_to rs flag (carried_by (value_after rs flag whole n) whole) p
