use Rattle.share_stride.proofs.SeatingLemmas.{HoleSinks-step}
use Rattle.share_stride.proofs.seating.Seating.sink.Goals as goal

pub loop-from-preserved : goal.loop-from-preserved
loop-from-preserved c =
    rw (c.fill.ensures.entries, c.fill.ensures.seats)
    (HoleSinks-step _ _ _ _ _ _ _ _ c.requires.few c.loop-from.invariant c.in-Some.ensures.past)
