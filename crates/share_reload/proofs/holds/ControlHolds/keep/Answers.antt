use Rattle.std.proofs.Common.{◌≡◌, ◌∙◌, ap, map, rules}
use Rattle.share_reload.specs.Holds.{holds, kept_at}
use Rattle.share_reload.proofs.HoldLemmas.{kept_holds}
use Rattle.share_reload.proofs.holds.ControlHolds.keep.Goals as goal

pub returns-clause-names : goal.returns-clause-names
returns-clause-names c = λ name.
    let is : c.in_ok-tenants.tenants.items ≡ map (kept_at c.args.self.now) c.args.plan.now.tenants = search rules in
    ap (λ hs. holds hs name) is ∙ kept_holds c.args.self.now name c.args.plan.now.tenants
