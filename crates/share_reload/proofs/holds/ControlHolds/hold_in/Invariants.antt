use Rattle.std.proofs.Common.{◌≡◌, take}
use Rattle.share_reload.specs.Holds.{with_holds}
use Rattle.share_reload.proofs.holds.ControlHolds.hold_in.Given as goal

abbrev pub invariant-loop-index : goal.invariant-loop-index
invariant-loop-index l = l.plan ≡ with_holds (take l.index l.self) l.initial.plan
