use Rattle.std.proofs.Common.{arith, refl}
use Rattle.share_ingress.proofs.OfferLemmas.{of_stranger}
use Rattle.share_ingress.proofs.ends.Intake.count.Goals as goal

pub returns-then-worker-self : goal.returns-then-worker-self
returns-then-worker-self c = let test = c.if-worker-self.true in
    rw (← c.self.view_is)
    (rw (of_stranger _ c.args.worker _ c.self.invariant.3 (λ w. omega (arith, w.1, test))) refl)

pub returns-then-worker-eq0 : goal.returns-then-worker-eq0
returns-then-worker-eq0 c = let test = c.if-worker-eq0.true in
    rw (← c.self.view_is)
    (rw (of_stranger _ c.args.worker _ c.self.invariant.3 (λ w. omega (arith, w.0, test))) refl)
