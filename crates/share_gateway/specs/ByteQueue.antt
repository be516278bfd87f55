-- The view of a queue of bytes in contracts.
use Rattle.std.specs.Prelude.{ℕ, List}

-- the bytes that are in it, from the front to the back, and those that were given last, until more come in. Then comes
-- the number of bytes that may be in it
pub record ByteQueueView : Type 0 where
  pub bytes : List ℕ
  pub given : List ℕ
  pub most : ℕ
