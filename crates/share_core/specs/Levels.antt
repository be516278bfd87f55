-- The tickets with which the queue was levelled last, kept by the places of the flows.
use Rattle.std.specs.Prelude.{◌≡◌, ◌≤◌, ◌<◌, ℕ, List, length, map, take, get_or, slice_get}
use Rattle.share_model.specs.funding.Graph.{Graph}
use Rattle.share_model.specs.link.Live.{tickets_of_all}
use Rattle.share_model.specs.stride.Moves.{Stride, client}
use Rattle.share_model.specs.stride.Level.{HasTickets}
use Rattle.share_core.specs.Found.{IfFound}

-- the tickets of the open flows stand in front, in order of opening
abbrev pub AreTicketsOf : List ℕ → Graph → Type 0
AreTicketsOf levelled_with g = take (length g.flows) levelled_with ≡ map (λ (want : ℕ × ℕ). want.1) (tickets_of_all g)

-- the client of the flow at a place competes with the tickets that are kept there
abbrev pub IsLevelAt : Stride → List (ℕ × ℕ) → List ℕ → ℕ → Type 0
IsLevelAt q flows levelled_with k =
    IfFound (slice_get flows k) (λ want. HasTickets (client q want.0) (get_or levelled_with k 0))

abbrev pub AreLevelAt : Stride → List (ℕ × ℕ) → List ℕ → Type 0
AreLevelAt q flows levelled_with = (k : ℕ) → IsLevelAt q flows levelled_with k

-- the tickets that are kept for the places from one to another are these
abbrev pub AreSameFrom : List ℕ → List ℕ → ℕ → ℕ → Type 0
AreSameFrom levelled_with tickets from to = (k : ℕ) → from ≤ k → k < to → get_or levelled_with k 0 ≡ get_or tickets k 0
