use Rattle.std.proofs.Common.{◌≡◌, map, take}
use Rattle.share_reload.specs.Holds.{kept_at}
use Rattle.share_reload.proofs.holds.kept_of.Given as goal

abbrev pub invariant-loop-index : goal.invariant-loop-index
invariant-loop-index l = l.kept.items ≡ map (kept_at l.holds) (take l.index l.tenants)
