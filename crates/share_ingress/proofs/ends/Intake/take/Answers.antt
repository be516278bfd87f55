use Rattle.std.proofs.Common.{◌∙◌}
use Rattle.share_ingress.proofs.QueueOrderLemmas.{pops, seen}
use Rattle.share_ingress.proofs.IntakeLemmas.{view_after, known_after, counts_after}
use Rattle.share_ingress.proofs.ends.Intake.take.Goals as goal

pub pop-requires-clause-rule : goal.pop-requires-clause-rule
pop-requires-clause-rule g c = (pops _ _ _ _ _ _ c.self.invariant.1, seen _ _ _ _ _ _ c.self.invariant.1)

pub invariant_of-self-2 : goal.invariant_of-self-2
invariant_of-self-2 g c =
    let taken = c.in_ok-offer.ensures.rule.0 in
    let queue = c.in_ok-offer.ensures.queue in (
      (queue.0 ∙ c.self.invariant.0.0, queue.2 ∙ c.self.invariant.0.1),
      view_after _ _ _ _ c.self.invariant.1 taken,
      c.self.invariant.2,
      known_after _ _ _ _ c.self.invariant.1 taken c.self.invariant.3,
      counts_after _ _ _ _ c.self.invariant.1 taken _ c.self.invariant.4 c.self.invariant.2,
    )
