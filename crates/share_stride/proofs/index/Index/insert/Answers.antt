use Rattle.std.proofs.Common.{◌≡◌, length, sym, ap, ◌∙◌, arith, IsOk}
use Rattle.std.specs.List.{insert}
use Rattle.std.specs.FinMap as map
use Rattle.std.specs.FinMap.{get, len}
use Rattle.std.proofs.lemmas.Bool.{cond-true}
use Rattle.share_stride.proofs.IndexLemmas.{get_at, key_map-insert, IsRising-insert, len-key_map}
use Rattle.share_stride.proofs.index.Index.insert.Goals as goal

-- there is room for one more pair
items : (c : goal.After-insert)
    → c.insert.new.self.items ≡ insert c.self.inside.pairs.items c.in-Err.place (c.args.flow, c.args.key)
items c =
    let count = sym (len-key_map c.self.inside.pairs.items c.self.invariant.0) ∙ ap len c.self.view_is in
    let ok : IsOk c.insert.result =
    c.insert.ensures.succeeds
    (omega (arith, count, c.requires.room, c.self.invariant.1, c.deref.ensures.len, ap length c.deref.ensures.value)) in
    c.insert.ensures.items ∙ cond-true _ _ _ ok

pub invariant_of-self : goal.invariant_of-self
invariant_of-self c =
    let gap = rw c.deref.ensures.value at c.in-Err.ensures.absent in (
      rw (items c) (IsRising-insert _ _ _ gap c.args.key c.self.invariant.0),
      omega (arith, c.insert.ensures.capacity, c.self.invariant.1),
    )

pub unreachable-requires : goal.unreachable-requires
unreachable-requires c =
    let at = rw c.deref.ensures.value at c.in-Ok.ensures.found in
    let found = sym (get_at _ c.self.invariant.0 _ _ at) ∙ ap (λ m. get m c.args.flow) c.self.view_is in
    let absent = c.requires.absent in
    cc

pub returns : goal.returns
returns c =
    let gap = rw c.deref.ensures.value at c.in-Err.ensures.absent in
    rw (items c)
    (key_map-insert _ _ _ gap c.args.key ∙ ap (λ m. map.insert m c.args.flow c.args.key) c.self.view_is)
