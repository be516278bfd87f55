-- The values that are kept of currencies and flows by their places.
use Rattle.std.specs.Prelude.{◌≡◌, ◌<◌, ◌+◌, ℕ, Bool, false, not, List, map, sum_by, slice_index_or, if◌then◌else◌}
use Rattle.share_model.specs.declared.funding.OpenFlow.{OpenFlow}
use Rattle.share_model.specs.funding.Graph.{NameBytes, Graph}
use Rattle.share_ledger.specs.declared.valuation.Valuation.{Valuation}
use Rattle.share_ledger.specs.declared.routes.Route.{Route}
use Rattle.share_ledger.specs.Arrays.{flags_of, numbers_of}
use Rattle.share_ledger.specs.Routes.{amended}
use Rattle.share_ledger.specs.Ranks.{AreRanks, AreListed}
use Rattle.share_ledger.specs.FundingTickets.{backs_of, funds_of, AreTicketed, AreCounted, AreAwake, AreValued}
use Rattle.share_ledger.specs.FundingTickets.{AreShared, AreSmall}

-- whether the flow at a place is active
abbrev pub activity_of : Graph → ℕ → Bool
activity_of g k = slice_index_or (map (λ (e : NameBytes × OpenFlow). e.1.active) g.flows) k false

-- The funding tickets, the activity of the flows and the weights are those of these routes and flows.
pub record HasInputs (n : Valuation) (backs funds : List Route) (lit : ℕ → Bool) : Type 0 where
  pub backing : AreTicketed backs n.backing.items
  pub funding : AreTicketed funds n.funding.items
  pub ranked : AreRanks n.backing.items (numbers_of n.ranks.value)
  pub listed : AreListed (numbers_of n.ranks.value) (numbers_of n.order.value)
  pub active_is : (k : ℕ) → flags_of n.active.value k ≡ lit k
  pub counted : AreCounted backs funds (flags_of n.awake.value) (flags_of n.active.value) (numbers_of n.weights.value)
  pub small : AreSmall (numbers_of n.values.value)

-- The awake places, the values and the tickets of the flows are theirs too.
pub record IsReady (n : Valuation) (tickets_of_all : List ℕ) (backs funds : List Route) (lit : ℕ → Bool) : Type 0 where
  pub begun : HasInputs n backs funds lit
  pub awake_is : AreAwake (flags_of n.awake.value) (numbers_of n.weights.value)
  pub valued : AreValued n.backing.items (flags_of n.awake.value) (numbers_of n.values.value)
      (numbers_of n.weights.value)
  pub shared : AreShared n.funding.items (flags_of n.active.value) (numbers_of n.values.value)
      (numbers_of n.weights.value) (numbers_of tickets_of_all)
  pub seen_is : (p : ℕ) → 0 < p → p < 65 → numbers_of n.seen.value p ≡ numbers_of n.weights.value p

-- Any sum over some routes grows by what one more route counts for, if it is one of them.
abbrev pub GrowsBy : Bool → List Route → List Route → Route → Type 0
GrowsBy counts rs more r = (F : Route → ℕ) → sum_by F more ≡ sum_by F rs + (if counts then F r else 0)

-- The graph has one route more than the valuation: of a ticket that backs a currency, or of one that funds a flow.
abbrev pub ComesToFund : Valuation → Graph → Route → Bool → Type 0
ComesToFund n g r backing = (backs : List Route) × ((funds : List Route)
    × (HasInputs n backs funds (activity_of g) × GrowsBy backing backs (backs_of g) r
    × GrowsBy (not backing) funds (funds_of g) r))

-- The graph has one route less than the valuation.
abbrev pub CeasesToFund : Valuation → Graph → Route → Bool → Type 0
CeasesToFund n g r backing = (backs : List Route) × ((funds : List Route)
    × (HasInputs n backs funds (activity_of g) × GrowsBy backing (backs_of g) backs r
    × GrowsBy (not backing) (funds_of g) funds r))

-- The graph has a route of the valuation with another amount. Without that route both have the same routes left.
abbrev pub GetsAmount : Valuation → Graph → Route → ℕ → Bool → Type 0
GetsAmount n g r amount backing = (backs : List Route) × ((funds : List Route)
    × ((left_backs : List Route) × ((left_funds : List Route)
    × (HasInputs n backs funds (activity_of g) × GrowsBy backing left_backs backs r
    × GrowsBy (not backing) left_funds funds r
    × GrowsBy backing left_backs (backs_of g) (amended amount r)
    × GrowsBy (not backing) left_funds (funds_of g) (amended amount r)))))
