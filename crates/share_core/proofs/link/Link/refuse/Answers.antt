use Rattle.share_model.proofs.lemmas.run.SoundCommandLemmas.{sound-with_one_event}
use Rattle.share_core.proofs.LifeLemmas.{living}
use Rattle.share_core.proofs.link.Link.refuse.Goals as goal

pub invariant_of-self : goal.invariant_of-self
invariant_of-self g c = (
  c.self.invariant.0,
  sound-with_one_event c.self.invariant.1
      (living _ _ c.self.view_is c.requires c.self.invariant.1),
)
