use Rattle.share_stride.proofs.RankLemmas.{IsWellFormed-new}
use Rattle.share_stride.proofs.table.Table.new.Goals as goal

pub invariant_of-result : goal.invariant_of-result
invariant_of-result c =
    IsWellFormed-new _ _ _ c.capacity.result c.in_ok-slots.ensures.empty c.in_ok-index.ensures
    c.in_ok-slots.ensures.capacity c.capacity.ensures.value c.in_ok-heap.ensures
