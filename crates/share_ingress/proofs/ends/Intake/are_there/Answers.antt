use Rattle.std.proofs.Common.{arith}
use Rattle.share_ingress.proofs.ends.Intake.are_there.Goals as goal

pub returns : goal.returns
returns c = rw (← c.self.view_is)
    (λ w known. c.loop-worker.invariant w (known.0, omega (arith, known.1, c.loop-worker-test.false)))
