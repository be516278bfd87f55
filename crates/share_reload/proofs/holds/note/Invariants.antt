use Rattle.std.proofs.Common.{◌≡◌, ◌++◌, map, take, drop}
use Rattle.share_reload.specs.Holds.{note_at}
use Rattle.share_reload.proofs.holds.note.Given as goal

abbrev pub invariant-loop-index : goal.invariant-loop-index
invariant-loop-index l =
    l.tenants.items
    ≡ map (note_at l.name l.held) (take l.index l.initial.tenants.items) ++ drop l.index l.initial.tenants.items
