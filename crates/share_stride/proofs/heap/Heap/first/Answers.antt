use Rattle.std.proofs.Common.{◌≡◌, ◌<◌, None, Some, length, subst, sym, ◌∙◌, arith}
use Rattle.std.proofs.lemmas.List.{get_or_default}
use Rattle.share_stride.specs.declared.seating.HeapEntry.{HeapEntry}
use Rattle.share_stride.specs.Seating.{no_entry, entry_in_seat}
use Rattle.share_stride.specs.Heap.{Standings, standings_of, IsFirstStanding}
use Rattle.share_stride.proofs.HeapLemmas.{IsFirstStanding-none, IsFirstStanding-some}
use Rattle.share_stride.proofs.heap.Heap.first.Goals as goal

pub returns-then-self-eq0 : goal.returns-then-self-eq0
returns-then-self-eq0 c =
    subst (λ (s : Standings). IsFirstStanding s None) c.self.view_is
    (subst (λ n. IsFirstStanding (standings_of n c.self.inside.seating.entries.items c.self.inside.seating.seats.items)
    None)
    (sym c.if-self-eq0.true)
    (IsFirstStanding-none c.self.inside.seating.entries.items c.self.inside.seating.seats.items
    c.self.invariant.seated))

pub returns-else-self-eq0 : goal.returns-else-self-eq0
returns-else-self-eq0 c =
    let some = c.if-self-eq0.false in
    let few = c.self.invariant.few in
    let there : 0 < length c.self.inside.seating.entries.items = omega arith in
    let is : c.index.result.now ≡ entry_in_seat c.self.inside.seating.entries.items 0 =
    c.index.ensures ∙ get_or_default c.self.inside.seating.entries.items 0 c.index.result.now no_entry there in
    subst (λ (s : Standings). IsFirstStanding s (Some c.index.result.now)) c.self.view_is
    (subst (λ (e : HeapEntry). IsFirstStanding (standings_of c.self.inside.count c.self.inside.seating.entries.items
    c.self.inside.seating.seats.items) (Some e)) (sym is)
    (IsFirstStanding-some c.self.inside.count _ _ c.self.invariant (omega arith)))
