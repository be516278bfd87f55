use Rattle.std.proofs.Common.{◌∙◌, ap, sym}
use Rattle.share_model.specs.link.Calls.{is_spent}
use Rattle.share_model.proofs.lemmas.link.VersionLemmas.{arrive-version}
use Rattle.share_ingress.specs.Ends.{IntakeView}
use Rattle.share_locked.proofs.CallLemmas.{admitted_kept}
use Rattle.share_locked.proofs.locked.Locked.admit.Goals as goal

pub invariant_of-self-2 : goal.invariant_of-self-2
invariant_of-self-2 g c = (
  ap (λ (v : IntakeView). v.link) c.in-Some.ensures.some.popped ∙ c.self.invariant.0,
  admitted_kept c.self.inside.recorder c.arrive-reply.new.self c.self.inside.intake c.take.new.self c.in-Some.offer
      c.arrive-reply.result (ap is_spent (sym c.engine.ensures.link) ∙ sym c.spent.ensures ∙ c.if-spent.false)
      c.in-Some.ensures.some c.arrive-reply.ensures.did c.arrive-reply.ensures.entry c.arrive-reply.ensures.event
      c.arrive-reply.ensures.body
      c.self.invariant.1,
  c.self.invariant.2,
  arrive-version _ _ _ _ _ c.arrive-reply.ensures.did ∙ c.self.invariant.3,
)
