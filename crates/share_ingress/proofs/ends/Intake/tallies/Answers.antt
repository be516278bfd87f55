use Rattle.std.proofs.Common.{◌≡◌, ◌∙◌, length, sum, ap}
use Rattle.std.proofs.lemmas.Result.{IfOk-weaker}
use Rattle.share_ingress.specs.Gathers.{tallies_of}
use Rattle.share_ingress.proofs.IntakeLemmas.{tallies_are, tallies_sum}
use Rattle.share_ingress.proofs.ends.Intake.tallies.Goals as goal

pub returns-clause-items : goal.returns-clause-items
returns-clause-items c =
    rw (← c.self.view_is)
    (IfOk-weaker c.to_vec.result _ (λ t. t.items ≡ tallies_of c.self.inside.workers _)
    (λ t copied. copied (λ x y h. h)
    ∙ tallies_are c.self.inside.workers c.self.inside.counts _ c.self.invariant.2 c.self.invariant.4)
    c.to_vec.ensures.items_if_clones_equal)

pub returns-clause-total : goal.returns-clause-total
returns-clause-total c =
    rw (← c.self.view_is)
    (IfOk-weaker c.to_vec.result _ (λ t. sum t.items ≡ length _)
    (λ t copied. ap (λ xs. sum xs) (copied (λ x y h. h)
    ∙ tallies_are c.self.inside.workers c.self.inside.counts _ c.self.invariant.2 c.self.invariant.4)
    ∙ tallies_sum c.self.inside.workers _ c.self.invariant.3)
    c.to_vec.ensures.items_if_clones_equal)
