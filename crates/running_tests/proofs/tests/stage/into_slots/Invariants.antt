use Rattle.std.proofs.Common.{◌≡◌}
use Rattle.std.specs.Vec.Iter.{into_iter_items}
use Rattle.share_model.specs.lists.Each.{Each}
use Rattle.running_tests.proofs.tests.stage.into_slots.Given as goal

abbrev pub invariant-loop-end : goal.invariant-loop-end
invariant-loop-end g l = Each (λ e. e.link ≡ g.L.LinkBrand.link) (into_iter_items l.end-iterator)
