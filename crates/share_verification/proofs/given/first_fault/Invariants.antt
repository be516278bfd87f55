use Rattle.share_verification.specs.Given.{AreRight}
use Rattle.share_verification.proofs.given.first_fault.Given as goal

abbrev pub invariant-loop-index : goal.invariant-loop-index
invariant-loop-index l = AreRight l.rows l.given l.index
