use Rattle.share_core.proofs.BufferHandleLemmas.{booked_at, stands_in}
use Rattle.share_core.proofs.link.Link.wakes_at.Goals as goal

pub is_held_at-requires : goal.is_held_at-requires
is_held_at-requires g c =
    booked_at c.self.invariant.1 c.args.handle.now
    (stands_in _ _ c.args.handle.now c.self.view_is c.requires)
