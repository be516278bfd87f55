use Rattle.std.proofs.Common.{◌∙◌, ap, arith, slice_set}
use Rattle.std.proofs.lemmas.List.Edits.{map_over_more}
use Rattle.share_reload.specs.declared.holds.ControlHold.{ControlHold}
use Rattle.share_reload.specs.Holds.{note_at}
use Rattle.share_reload.proofs.holds.note.Goals as goal

pub loop-index-preserved : goal.loop-index-preserved
loop-index-preserved c =
    ap (λ (h : ControlHold). slice_set c.loop-index.tenants.items c.loop-index.index h) c.note_at.ensures
    ∙ map_over_more (note_at c.args.name c.args.held) c.args.tenants.now.items c.loop-index.tenants.items
    c.loop-index.index c.index_mut.result.now (omega arith) c.loop-index.invariant c.index_mut.ensures.value
