use Rattle.std.proofs.Common.{refl}
use Rattle.share_base.specs.declared.command.Command.TheVariants.{Amend}
use Rattle.share_core.proofs.FundingLemmas.{sound-done, can-level, level-before}
use Rattle.share_core.proofs.LifeLemmas.{living}
use Rattle.share_core.proofs.link.Link.amend.Goals as goal

pub level-requires-clause-can : goal.level-requires-clause-can
level-requires-clause-can g c = can-level c.self.invariant.1 _ _ c.in-Ok.ensures.done.1 refl

pub level-requires-clause-levelled_with : goal.level-requires-clause-levelled_with
level-requires-clause-levelled_with g c =
    level-before c.self.invariant.1 _ c.self.invariant.0.1 _ _ c.in-Ok.ensures.done.1 refl

pub invariant_of-self-in-Ok : goal.invariant_of-self-in-Ok
invariant_of-self-in-Ok g c =
    let done = sound-done c.self.invariant.1 (living _ _ c.self.view_is c.requires c.self.invariant.1)
    (Amend c.args.ticket c.args.amount) c.in-Ok.ensures.done.0 in
    ((c.self.invariant.0.0, c.level.ensures.levelled_with), rw (c.level.ensures.queue, c.in-Ok.ensures.done.1) done)
