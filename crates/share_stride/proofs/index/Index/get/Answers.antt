use Rattle.std.proofs.Common.{sym, ap, ◌∙◌, Some}
use Rattle.std.specs.FinMap.{get}
use Rattle.std.proofs.lemmas.List.{get_or_default}
use Rattle.share_stride.proofs.IndexLemmas.{get_at, get_in_gap}
use Rattle.share_stride.proofs.index.Index.get.Goals as goal

pub returns-in-Err : goal.returns-in-Err
returns-in-Err c =
    let gap = rw c.deref.ensures.value at c.in-Err.ensures.absent in
    sym (get_in_gap _ _ _ gap) ∙ ap (λ m. get m c.args.flow) c.self.view_is

pub returns-in-Ok : goal.returns-in-Ok
returns-in-Ok c =
    let at = rw c.deref.ensures.value at c.in-Ok.ensures.found in
    ap Some (ap (λ pair. pair.1) (c.index.ensures ∙ get_or_default _ _ _ (0, 0) at.in_range))
    ∙ sym (get_at _ c.self.invariant.0 _ _ at)
    ∙ ap (λ m. get m c.args.flow) c.self.view_is
