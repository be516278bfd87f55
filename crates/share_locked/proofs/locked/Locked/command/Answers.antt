use Rattle.std.proofs.Common.{◌∙◌}
use Rattle.share_model.proofs.lemmas.link.VersionLemmas.{command-version}
use Rattle.share_locked.proofs.CallLemmas.{command_kept}
use Rattle.share_locked.proofs.locked.Locked.command.Goals as goal

pub invariant_of-self : goal.invariant_of-self
invariant_of-self g c = (
  c.self.invariant.0,
  command_kept _ _ _ _ _ _ c.command-reply.ensures.entry ∙ c.self.invariant.1,
  c.self.invariant.2,
  command-version _ _ _ _ c.command-reply.ensures.did ∙ c.self.invariant.3,
)

pub invariant_of-self-2 : goal.invariant_of-self-2
invariant_of-self-2 g c = (
  c.self.invariant.0,
  command_kept _ _ _ _ _ _ c.command-reply.ensures.entry ∙ c.self.invariant.1,
  c.self.invariant.2,
  command-version _ _ _ _ c.command-reply.ensures.did ∙ c.self.invariant.3,
)
