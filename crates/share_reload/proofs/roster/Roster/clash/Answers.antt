use Rattle.std.proofs.Common.{◌∙◌, ap, sym, arith, map}
use Rattle.share_reload.specs.Rosters.{first_clash, numbered}
use Rattle.share_reload.proofs.RosterLemmas.{own_names_of, clear_whole}
use Rattle.share_reload.proofs.roster.Roster.clash.Goals as goal

pub returns-clause-names : goal.returns-clause-names
returns-clause-names c = λ _.
    own_names_of c.args.self.now c.args.plan.now c.tenants-tenants.ensures.limits
    (ap (λ ts. first_clash c.args.self.now (map numbered ts)) (sym c.tenants-tenants.ensures.value)
    ∙ clear_whole c.args.self.now c.tenants-tenants.result.now c.loop-index.index c.loop-index.invariant (omega arith))
