use Rattle.std.proofs.Common.{◌∙◌}
use Rattle.crossbeam_queue.specs.Passes.{view}
use Rattle.share_ingress.proofs.JoinLemmas.{closes}
use Rattle.share_ingress.proofs.IntakeLemmas.{whole_of, whole_by}
use Rattle.share_ingress.proofs.ends.Intake.close.Goals as goal

pub absorb-requires-clause-joins : goal.absorb-requires-clause-joins
absorb-requires-clause-joins c =
    closes _ (view c.self.inside.token.pass) _ _ _ _ _ _ _ _ c.self.invariant.1 c.end.invariant.1 _
    (whole_by _ _ _ _ (c.end.view_is ∙ c.compare-end.ensures.same.1) (c.self.view_is ∙ c.compare-end.ensures.same.0)
    (whole_of _ _ c.compare-end.ensures.front c.requires.taken))
