use Rattle.std.proofs.Common.{IsSome, Some, sym, ap, subst, ◌∙◌, set}
use Rattle.share_stride.specs.Heap.{Standings, standing_under}
use Rattle.share_stride.proofs.HeapLemmas.{seat_read, stands_within, shifting_lifted, shifting_open, standings-shifted}
use Rattle.share_stride.proofs.heap.Heap.shift.Goals as goal

pub sift-requires-clause-lifted : goal.sift-requires-clause-lifted
sift-requires-clause-lifted c =
    let seat = seat_read _ _ _ _ _ _ c.self.invariant.seated c.self.view_is
    (stands_within _ _ c.requires) c.index-seat.ensures in
    let there = subst (λ (s : Standings). IsSome (standing_under s c.args.entry.key)) (sym c.self.view_is) c.requires in
    rw seat.1 (shifting_lifted _ _ _ c.args.entry c.self.invariant there)

pub sift-requires-clause-is_open : goal.sift-requires-clause-is_open
sift-requires-clause-is_open c =
    let seat = seat_read _ _ _ _ _ _ c.self.invariant.seated c.self.view_is
    (stands_within _ _ c.requires) c.index-seat.ensures in
    let there = subst (λ (s : Standings). IsSome (standing_under s c.args.entry.key)) (sym c.self.view_is) c.requires in
    rw seat.1 (shifting_open _ _ _ c.args.entry c.self.invariant there)

pub returns : goal.returns
returns c =
    let there = subst (λ (s : Standings). IsSome (standing_under s c.args.entry.key)) (sym c.self.view_is) c.requires in
    standings-shifted _ _ _ c.args.entry c.self.invariant there _ _ c.sift.ensures
    ∙ ap (λ (s : Standings). set s c.args.entry.key (Some c.args.entry)) c.self.view_is
