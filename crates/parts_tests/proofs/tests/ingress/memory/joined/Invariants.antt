use Rattle.std.proofs.Common.{◌≡◌}
use Rattle.share_model.specs.lists.Each.{Each}
use Rattle.parts_tests.proofs.tests.ingress.memory.joined.Given as goal

abbrev pub invariant-loop-request : goal.invariant-loop-request
invariant-loop-request g l = Each (λ e. e.link ≡ l.intake.link) l.ends.items
