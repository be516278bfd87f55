-- The bound of the distance of a pass from the global pass. It is at most the client's stride for each unit charged so
-- far, and one stride more.
use Rattle.std.specs.Prelude.{◌≡◌, ℕ, ◌+◌, ◌*◌, ◌^◌, ◌<◌, ◌≤◌, ℤ, pos, ◌-ℤ◌, Some, IsTrue, unsigned_abs, if◌then◌else◌}
use Rattle.std.specs.FinMap as map
use Rattle.std.specs.FinMap.{get}
use borrow.Author.Differences.{up, down}
use Rattle.share_model.specs.declared.stride.Client.{Client}
use Rattle.share_model.specs.stride.Moves.{Stride, stride_of}

-- the distance by which a client is ahead of the global pass
abbrev pub distance : ℕ → Client → ℤ
distance global_pass c = if c.competes then c.pass -ℤ pos global_pass else c.remain

-- `up z` is the distance of z above zero, and `down z` that below. A client falls behind only when the global pass
-- moves on, so the bound `below` uses the clock at the last update
pub record IsBounded (global_pass last clock : ℕ) (c : Client) : Type 0 where
  pub tickets : c.tickets ≤ 2 ^ 20
  pub stride : c.stride ≡ stride_of c.tickets
  pub competing : IsTrue c.competes → 0 < c.tickets
  pub below : down (distance global_pass c) ≤ c.stride * (1 + last)
  pub above : up (distance global_pass c) ≤ c.stride * (1 + clock)

pub record IsSound (s : Stride) : Type 0 where
  pub clients : (f : ℕ) (c : Client) → get s.clients f ≡ Some c → IsBounded s.pass s.last s.clock c
  pub count : map.len s.clients ≤ 64
  pub time : s.last ≤ s.clock
  pub clock : s.clock ≤ 2 ^ 40
  pub pass : s.pass ≤ 2 ^ 40 * s.last

-- the distance from the global pass, whether a client is ahead or behind, is within its stride times (1 + clock)
abbrev pub IsNearGlobalPass : Stride → Client → Type 0
IsNearGlobalPass s c = unsigned_abs (distance s.pass c) ≤ c.stride * (1 + s.clock)
