use Rattle.std.proofs.Common.{arith, refl}
use Rattle.share_ingress.proofs.QueueOrderLemmas.{pushes, own_last}
use Rattle.share_ingress.proofs.ends.IngressEnd.offer.Goals as goal

pub push-requires-clause-rule : goal.push-requires-clause-rule
push-requires-clause-rule g c = (
  pushes _ _ _ _ _ _ c.self.invariant.1 refl (omega (arith, c.self.invariant.2)),
  own_last _ _ _ _
      c.self.invariant.1,
)
