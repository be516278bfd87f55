use Rattle.std.proofs.Common.{sym, ap, ◌∙◌, Some}
use Rattle.std.specs.FinMap.{get, remove}
use Rattle.std.proofs.lemmas.List.{get_or_default}
use Rattle.share_model.proofs.lemmas.stride.MapLemmas.{remove_absent}
use Rattle.share_stride.proofs.IndexLemmas.{get_at, get_in_gap, key_map-remove}
use Rattle.share_stride.proofs.index.Index.remove.Goals as goal

pub returns-in-Err-clause-key : goal.returns-in-Err-clause-key
returns-in-Err-clause-key c =
    let gap = rw c.deref.ensures.value at c.in-Err.ensures.absent in
    sym (get_in_gap _ _ _ gap) ∙ ap (λ m. get m c.args.flow) c.self.view_is

pub returns-in-Err-clause-removed : goal.returns-in-Err-clause-removed
returns-in-Err-clause-removed c =
    let gap = rw c.deref.ensures.value at c.in-Err.ensures.absent in
    let absent = ap (λ m. get m c.args.flow) (sym c.self.view_is) ∙ get_in_gap _ _ _ gap in
    sym (remove_absent c.args.self.now c.args.flow absent)

pub returns-in-Ok-clause-key : goal.returns-in-Ok-clause-key
returns-in-Ok-clause-key c =
    let at = rw c.deref.ensures.value at c.in-Ok.ensures.found in
    ap Some (ap (λ pair. pair.1) (c.remove.ensures.value ∙ get_or_default _ _ _ (0, 0) at.in_range))
    ∙ sym (get_at _ c.self.invariant.0 _ _ at)
    ∙ ap (λ m. get m c.args.flow) c.self.view_is

pub returns-in-Ok-clause-removed : goal.returns-in-Ok-clause-removed
returns-in-Ok-clause-removed c =
    let at = rw c.deref.ensures.value at c.in-Ok.ensures.found in
    rw c.remove.ensures.items
    (key_map-remove _ c.self.invariant.0 _ _ at ∙ ap (λ m. remove m c.args.flow) c.self.view_is)
