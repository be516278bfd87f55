use Rattle.std.proofs.Common.{◌≡◌}
use Rattle.share_model.specs.lists.Each.{Each}
use Rattle.share_served.proofs.slots.take_ends.Given as goal

abbrev pub invariant-loop-slot : goal.invariant-loop-slot
invariant-loop-slot g l = Each (λ e. e.link ≡ g.L.LinkBrand.link) l.ends.items
