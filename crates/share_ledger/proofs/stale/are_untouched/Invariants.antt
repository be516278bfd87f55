use Rattle.std.proofs.Common.{◌<◌, ◌+◌, ℕ}
use Rattle.share_model.specs.lists.Each.{Each}
use Rattle.share_ledger.specs.FundingTickets.{ComesFrom, funding_tickets_at}
use Rattle.share_ledger.proofs.stale.are_untouched.Given as goal

abbrev pub invariant-loop-i : goal.invariant-loop-i
invariant-loop-i l = (k : ℕ) → k < l.i → Each (ComesFrom l.sources) (funding_tickets_at l.funding (l.from + k))
