use Rattle.std.proofs.Common.{◌≡◌, ◌∙◌, arith}
use Rattle.std.proofs.lemmas.Grind.{common_steps}
use Rattle.share_reload.specs.Holds.{with_holds}
use Rattle.share_reload.proofs.HoldLemmas.{holds_made}
use Rattle.share_reload.proofs.holds.ControlHolds.hold_in.Goals as goal

pub returns-clause-tenants : goal.returns-clause-tenants
returns-clause-tenants c = λ own.
    let steps : c.loop-index.plan ≡ with_holds c.args.self.now c.args.plan.now = grind (arith, common_steps) in
    steps ∙ holds_made c.args.self.now c.args.plan.now own
