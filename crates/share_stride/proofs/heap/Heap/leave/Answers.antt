use Rattle.std.proofs.Common.{IsSome, None, refl, sym, ap, subst, ◌∙◌, set}
use Rattle.share_stride.specs.Heap.{Standings, standing_under}
use Rattle.share_stride.proofs.HeapLemmas.{seat_read, stands_within, leaving_few, leaving_open, leaving_ordered}
use Rattle.share_stride.proofs.HeapLemmas.{IsHeap-left, standings-left}
use Rattle.share_stride.proofs.heap.Heap.leave.Goals as goal

pub resift-requires-clause-few : goal.resift-requires-clause-few
resift-requires-clause-few c =
    let seat = seat_read _ _ _ _ _ _ c.self.invariant.seated c.self.view_is
    (stands_within _ _ c.requires) c.index-seat.ensures in
    let there = subst (λ (s : Standings). IsSome (standing_under s c.args.key)) (sym c.self.view_is) c.requires in
    leaving_few _ _ _ _ c.args.key refl c.self.invariant there _ _ (rw seat.1 at c.swap.ensures)

pub resift-requires-clause-inside : goal.resift-requires-clause-inside
resift-requires-clause-inside c =
    let seat = seat_read _ _ _ _ _ _ c.self.invariant.seated c.self.view_is
    (stands_within _ _ c.requires) c.index-seat.ensures in
    let there = subst (λ (s : Standings). IsSome (standing_under s c.args.key)) (sym c.self.view_is) c.requires in
    rw seat.1 (leaving_open _ _ _ _ c.args.key refl c.self.invariant there _ _ (rw seat.1 at c.swap.ensures))

pub resift-requires-clause-behind : goal.resift-requires-clause-behind
resift-requires-clause-behind c =
    let seat = seat_read _ _ _ _ _ _ c.self.invariant.seated c.self.view_is
    (stands_within _ _ c.requires) c.index-seat.ensures in
    let there = subst (λ (s : Standings). IsSome (standing_under s c.args.key)) (sym c.self.view_is) c.requires in
    rw seat.1 (leaving_ordered _ _ _ _ c.args.key refl c.self.invariant there _ _ (rw seat.1 at c.swap.ensures))

pub invariant_of-self : goal.invariant_of-self
invariant_of-self c =
    let seat = seat_read _ _ _ _ _ _ c.self.invariant.seated c.self.view_is
    (stands_within _ _ c.requires) c.index-seat.ensures in
    let there = subst (λ (s : Standings). IsSome (standing_under s c.args.key)) (sym c.self.view_is) c.requires in
    IsHeap-left _ _ _ _ c.args.key refl c.self.invariant there _ _ (rw seat.1 at c.swap.ensures) _ _
    c.resift.ensures

pub returns : goal.returns
returns c =
    let seat = seat_read _ _ _ _ _ _ c.self.invariant.seated c.self.view_is
    (stands_within _ _ c.requires) c.index-seat.ensures in
    let there = subst (λ (s : Standings). IsSome (standing_under s c.args.key)) (sym c.self.view_is) c.requires in
    standings-left _ _ _ _ c.args.key refl c.self.invariant there _ _ (rw seat.1 at c.swap.ensures) _ _
    c.resift.ensures
    ∙ ap (λ (s : Standings). set s c.args.key None) c.self.view_is
