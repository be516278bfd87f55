use Rattle.std.proofs.Common.{arith}
use Rattle.std.proofs.lemmas.Bool.Decides.{nat_tests}
use Rattle.share_ledger.proofs.WeightLemmas.{array-set}
use Rattle.share_ledger.proofs.valuation.Valuation.share_one.Goals as goal

pub returns-then-flow-ge-MAX_FLOWS-clause-tickets_of_all : goal.returns-then-flow-ge-MAX_FLOWS-clause-tickets_of_all
returns-then-flow-ge-MAX_FLOWS-clause-tickets_of_all c = grind (arith, nat_tests)

pub returns-clause-tickets_of_all : goal.returns-clause-tickets_of_all
returns-clause-tickets_of_all c = grind (arith, nat_tests, array-set)
