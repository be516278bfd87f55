-- Levelling: each flow's client competes with exactly the tickets of the flow, and does not compete if it has none. No
-- units are charged between the moves of a levelling.
use Rattle.std.specs.Prelude.{◌≡◌, ◌≢◌, ℕ, zero, suc, ◌<◌, ◌≤◌, ◌^◌, nat_eq, List, [], ◌∷◌, Option, None, Some, IsSome}
use Rattle.std.specs.Prelude.{IsTrue, ◌↔◌, false, if◌then◌else◌}
use Rattle.std.specs.List.{fold}
use Rattle.std.specs.List.Sorted.{IsPermutation}
use Rattle.std.specs.FinMap.{get}
use Rattle.share_model.specs.declared.stride.Client.{Client}
use Rattle.share_model.specs.lists.Each.{Each}
use Rattle.share_model.specs.stride.Moves.{Stride, Move, Join, Leave, Modify, after_move, client, remove}

-- the move that brings a client to these tickets, if it takes one
abbrev pub level_move : Client → ℕ → Option Move
level_move c zero = if c.competes then Some Leave else None
level_move c (suc n) =
    if c.competes then (if nat_eq c.tickets (suc n) then None else Some (Modify (suc n))) else Some (Join (suc n))

abbrev pub moved_if : Stride → ℕ → Option Move → Stride
moved_if s f None = s
moved_if s f (Some move) = after_move s f move

-- the queue after the client of a flow took the move to these tickets, if any
abbrev pub level_one : Stride → ℕ → ℕ → Stride
level_one s f tickets = moved_if s f (level_move (client s f) tickets)

-- flows with their tickets, one after the other
abbrev pub level_all : Stride → List (ℕ × ℕ) → Stride
level_all s wants = fold (λ now want. level_one now want.0 want.1) s wants

-- each flow has a client, and at most 2^20 tickets
abbrev pub CanLevel : Stride → List (ℕ × ℕ) → Type 0
CanLevel s wants = Each (λ (want : ℕ × ℕ). IsSome (get s.clients want.0) × (want.1 ≤ 2 ^ 20)) wants

-- the client competes if and only if its flow has tickets, and then with these
pub record HasTickets (c : Client) (wanted : ℕ) : Type 0 where
  pub competes : IsTrue c.competes ↔ (0 < wanted)
  pub tickets : 0 < wanted → c.tickets ≡ wanted

abbrev pub IsLevel : Stride → List (ℕ × ℕ) → Type 0
IsLevel s wants = Each (λ (want : ℕ × ℕ). HasTickets (client s want.0) want.1) wants

-- flows with their moves, one after the other
abbrev pub all_moved : Stride → List (ℕ × Move) → Stride
all_moved s moves = fold (λ now entry. after_move now entry.0 entry.1) s moves

-- no flow has two entries
abbrev pub AreDistinctFlows : {A : Type 0} → List (ℕ × A) → Type 0
AreDistinctFlows [] = Unit {0}
AreDistinctFlows (e ∷ es) = Each (λ other. e.0 ≢ other.0) es × AreDistinctFlows es

-- ---- The laws

-- a queue that was levelled is level
abbrev pub LevelledIsLevel : Type 0
LevelledIsLevel = (s : Stride) (wants : List (ℕ × ℕ)) → AreDistinctFlows wants → IsLevel (level_all s wants) wants

-- a level queue takes no move
abbrev pub LevelStays : Type 0
LevelStays = (s : Stride) (wants : List (ℕ × ℕ)) → IsLevel s wants → level_all s wants ≡ s

-- moves of distinct flows give the same state in every order
abbrev pub MovesInAnyOrder : Type 0
MovesInAnyOrder =
    (s : Stride) (moves others : List (ℕ × Move)) → AreDistinctFlows moves → IsPermutation moves others
    → all_moved s others ≡ all_moved s moves

-- and so does a levelling
abbrev pub LevelledInAnyOrder : Type 0
LevelledInAnyOrder =
    (s : Stride) (wants others : List (ℕ × ℕ)) → AreDistinctFlows wants → IsPermutation wants others
    → level_all s others ≡ level_all s wants

-- the removal of a client that does not compete and a move of another flow give the same state in either order
abbrev pub RemovalCommutes : Type 0
RemovalCommutes =
    (s : Stride) (f g : ℕ) (move : Move) → f ≢ g → (client s f).competes ≡ false
    → after_move (remove s f) g move ≡ remove (after_move s g move) f

abbrev pub RemovalCommutesWithLevel : Type 0
RemovalCommutesWithLevel =
    (s : Stride) (f g tickets : ℕ) → f ≢ g → (client s f).competes ≡ false
    → level_one (remove s f) g tickets ≡ remove (level_one s g tickets) f
