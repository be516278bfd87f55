use Rattle.std.proofs.Common.{Some, set, ap, ◌∙◌}
use Rattle.share_stride.specs.Heap.{Standings, standing_under}
use Rattle.share_stride.proofs.HeapLemmas.{seat_read, entering_lifted, entering_few, entering_open, IsHeap-entered}
use Rattle.share_stride.proofs.HeapLemmas.{standings-entered}
use Rattle.share_stride.proofs.heap.Heap.enter.Goals as goal

pub sift-requires-clause-lifted : goal.sift-requires-clause-lifted
sift-requires-clause-lifted c =
    let seat = seat_read _ _ _ _ _ _ c.self.invariant.seated c.self.view_is c.requires.key c.index-seat.ensures in
    let out = ap (λ (s : Standings). standing_under s c.args.entry.key) c.self.view_is ∙ c.requires.out in
    entering_lifted _ _ _ c.args.entry c.self.invariant seat.0 out _ _ (rw seat.1 at c.swap.ensures)

pub sift-requires-clause-few : goal.sift-requires-clause-few
sift-requires-clause-few c =
    let seat = seat_read _ _ _ _ _ _ c.self.invariant.seated c.self.view_is c.requires.key c.index-seat.ensures in
    let out = ap (λ (s : Standings). standing_under s c.args.entry.key) c.self.view_is ∙ c.requires.out in
    entering_few _ _ _ c.args.entry c.self.invariant seat.0 out _ _ (rw seat.1 at c.swap.ensures)

pub sift-requires-clause-is_open : goal.sift-requires-clause-is_open
sift-requires-clause-is_open c =
    let seat = seat_read _ _ _ _ _ _ c.self.invariant.seated c.self.view_is c.requires.key c.index-seat.ensures in
    let out = ap (λ (s : Standings). standing_under s c.args.entry.key) c.self.view_is ∙ c.requires.out in
    entering_open _ _ _ c.args.entry c.self.invariant seat.0 out _ _ (rw seat.1 at c.swap.ensures)

pub invariant_of-self : goal.invariant_of-self
invariant_of-self c =
    let seat = seat_read _ _ _ _ _ _ c.self.invariant.seated c.self.view_is c.requires.key c.index-seat.ensures in
    let out = ap (λ (s : Standings). standing_under s c.args.entry.key) c.self.view_is ∙ c.requires.out in
    IsHeap-entered _ _ _ c.args.entry c.self.invariant seat.0 out _ _ (rw seat.1 at c.swap.ensures) _ _
    c.sift.ensures

pub returns : goal.returns
returns c =
    let seat = seat_read _ _ _ _ _ _ c.self.invariant.seated c.self.view_is c.requires.key c.index-seat.ensures in
    let out = ap (λ (s : Standings). standing_under s c.args.entry.key) c.self.view_is ∙ c.requires.out in
    standings-entered _ _ _ c.args.entry c.self.invariant seat.0 out _ _ (rw seat.1 at c.swap.ensures) _ _
    c.sift.ensures
    ∙ ap (λ (s : Standings). set s c.args.entry.key (Some c.args.entry)) c.self.view_is
