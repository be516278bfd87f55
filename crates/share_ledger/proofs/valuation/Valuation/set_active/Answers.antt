use Rattle.std.proofs.Common.{arith}
use Rattle.share_ledger.proofs.BaseFundingLemmas.{amount_from-base}
use Rattle.share_ledger.proofs.valuation.Valuation.set_active.Goals as goal
use Rattle.std.proofs.lemmas.Bool.Decides.{nat_tests}

pub returns-then-active-clause-still : goal.returns-then-active-clause-still
returns-then-active-clause-still c = grind (arith, nat_tests, amount_from-base)

pub returns-clause-still : goal.returns-clause-still
returns-clause-still c = grind (arith, nat_tests, amount_from-base)
