-- The pairs of an index: a flow number, and the key of its client.
use Rattle.std.specs.Prelude.{◌≡◌, ℕ, ◌<◌, ◌≤◌, List, length, slice_index_or}
use Rattle.std.specs.Ordering.{nat_cmp}
use Rattle.std.specs.FinMap.{FinMap, from_entries}

abbrev pub Pairs : Type 0
Pairs = List (ℕ × ℕ)

-- the keys by flow number
abbrev pub key_map : Pairs → FinMap nat_cmp ℕ
key_map pairs = from_entries pairs

-- the flow of the pair at place i
abbrev pub flow_at : Pairs → ℕ → ℕ
flow_at pairs i = let pair = slice_index_or pairs i (0, 0) in pair.0

-- the flow numbers rise
abbrev pub IsRising : Pairs → Type 0
IsRising pairs = (i j : ℕ) → i < j → j < length pairs → flow_at pairs i < flow_at pairs j

-- the pair at place i has the flow
pub record IsAt (pairs : Pairs) (flow i : ℕ) : Type 0 where
  pub in_range : i < length pairs
  pub has_flow : flow_at pairs i ≡ flow

-- the flow would go to place i: the numbers before it are less, those from it on greater
pub record IsGapFor (pairs : Pairs) (flow i : ℕ) : Type 0 where
  pub in_range : i ≤ length pairs
  pub lesser_before : (j : ℕ) → j < i → flow_at pairs j < flow
  pub greater_after : (j : ℕ) → i ≤ j → j < length pairs → flow < flow_at pairs j
