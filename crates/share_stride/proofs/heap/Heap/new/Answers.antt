use Rattle.std.proofs.Common.{None, replicate, ap, ◌∙◌}
use Rattle.share_stride.proofs.HeapLemmas.{standings_of-none}
use Rattle.share_stride.proofs.heap.Heap.new.Goals as goal

pub returns : goal.returns
returns c =
    standings_of-none c.in_ok-new.field-0.entries.items c.in_ok-new.field-0.seats.items
    ∙ ap (λ n. replicate n None) (c.in_ok-new.ensures.seated.as_many ∙ c.in_ok-new.ensures.long)
