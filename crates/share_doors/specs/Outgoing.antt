-- The records that a connection is given.
use Rattle.std.specs.Prelude.{◌≡◌, ◌≤◌, ℕ, Bool, true, false, List, drop}
use Rattle.share_model.specs.funding.Graph.{NameBytes}
use Rattle.share_model.specs.ingress.Records.{record_of}
use Rattle.share_gateway.specs.Records.{item_for}

-- the last of these bytes, after those that went
pub record GoesOn (old new : List ℕ) : Type 0 where
  pub went : ℕ
  pub left : new ≡ drop went old

-- the record of a payload was begun, and at least one byte of it went; or no record was, and what was left goes on
abbrev pub Sends : NameBytes → List ℕ → List ℕ → Bool → List ℕ → Type 0
Sends name payload old true new =
    (went : ℕ) × (1 ≤ went) × (new ≡ drop went (record_of (item_for name payload)))
Sends name payload old false new = GoesOn old new
