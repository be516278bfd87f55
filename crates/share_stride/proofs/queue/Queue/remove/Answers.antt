use Rattle.std.proofs.Common.{ap, sym, subst, ◌∙◌, IsSome}
use Rattle.std.specs.FinMap.{get}
use Rattle.share_model.specs.stride.Moves.{Stride, client}
use Rattle.share_stride.proofs.SoundQueueLemmas.{IsInStep-removed}
use Rattle.share_stride.proofs.queue.Queue.remove.Goals as goal

pub invariant_of-self : goal.invariant_of-self
invariant_of-self c =
    rw c.remove.ensures
    (IsInStep-removed _ _ c.args.flow c.self.invariant
    (subst (λ (s : Stride). IsSome (get s.clients c.args.flow)) (sym c.self.view_is) c.requires.there)
    (ap (λ (s : Stride). (client s c.args.flow).competes) c.self.view_is ∙ c.requires.idle))
