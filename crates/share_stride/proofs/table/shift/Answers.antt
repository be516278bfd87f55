use Rattle.std.proofs.Common.{None, sym, ap, ◌∙◌, set, rules}
use Rattle.std.specs.Prelude.{FitsSigned}
use mir.Syntax.{w128}
use Rattle.share_stride.proofs.RankLemmas.{entry_of-read, entry_of-idle}
use Rattle.share_stride.proofs.SeatLemmas.{set_same}
use Rattle.share_stride.proofs.HeapLemmas.{stands_none}
use Rattle.share_stride.proofs.table.shift.Goals as goal

pub returns-then-slot : goal.returns-then-slot
returns-then-slot c =
    let fits : FitsSigned w128 c.args.slot.now.client.pass = search rules in
    c.shift.ensures
    ∙ ap (set c.args.heap.now c.args.key) (sym (entry_of-read c.args.key c.args.slot.now c.if-slot.true fits))

pub returns-else-slot : goal.returns-else-slot
returns-else-slot c =
    sym (set_same c.args.heap.now c.args.key None None c.requires.key
    (stands_none c.args.heap.now c.args.key (c.requires.stands ∙ c.if-slot.false)))
    ∙ ap (set c.args.heap.now c.args.key) (sym (entry_of-idle c.args.key c.args.slot.now c.if-slot.false))
