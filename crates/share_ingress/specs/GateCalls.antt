-- A call of a gate.
use Rattle.std.specs.Prelude.{ℕ, Bool}

-- the item with this number is about to be offered for the first time; or it is queued. Or the queue was full, and the
-- answer says whether to offer the item again
pub data GateCall : Type 0 where
  item_next : ℕ → GateCall
  item_queued : ℕ → GateCall
  queue_full : Bool → GateCall
