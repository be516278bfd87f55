use Rattle.std.proofs.Common.{arith}
use Rattle.std.proofs.lemmas.List.{take_more_set, length-take}
use Rattle.share_ledger.proofs.FundingSourceLemmas.{bits-more}
use Rattle.share_ledger.proofs.funding_tickets.FundingTickets.add.Goals as goal
use Rattle.std.proofs.lemmas.Bool.Decides.{nat_tests}

pub invariant_of-self : goal.invariant_of-self
invariant_of-self c = grind (arith, nat_tests, length-take, take_more_set, bits-more)
