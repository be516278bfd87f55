use Rattle.share_catalog.specs.Billed.{Accounts}
use Rattle.share_catalog.proofs.billed.missing_below.Given as goal

abbrev pub invariant-loop-number : goal.invariant-loop-number
invariant-loop-number l = Accounts l.rows l.given l.number
