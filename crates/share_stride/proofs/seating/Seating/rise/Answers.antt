use Rattle.share_stride.proofs.SeatingLemmas.{HoleRises-step}
use Rattle.share_stride.proofs.seating.Seating.rise.Goals as goal

pub loop-from-preserved : goal.loop-from-preserved
loop-from-preserved c =
    rw (c.fill.ensures.entries, c.fill.ensures.seats)
    (HoleRises-step _ _ _ _ _ _ _ _ c.loop-from.invariant c.in-Some.ensures.past)
