use Rattle.std.proofs.Common.{◌∙◌, sym, subst, IsSome}
use Rattle.share_model.specs.link.Buffers.{buffer_of}
use Rattle.share_model.specs.link.View.{LinkView}
use Rattle.share_core.proofs.ArrivalLemmas.{buffered}
use Rattle.share_core.proofs.link.Link.arrive.Goals as goal

pub accept-requires-clause-there : goal.accept-requires-clause-there
accept-requires-clause-there g c =
    subst (λ (k : LinkView (Unit {0})). IsSome (buffer_of k.live.buffers c.in-Some.flow)) c.self.view_is
    (buffered _ c.self.invariant.1 c.args.name.now c.in-Some.flow (sym c.flow.ensures ∙ c.in-Some.is))
