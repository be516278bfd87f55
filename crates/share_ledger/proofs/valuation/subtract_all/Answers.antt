use Rattle.share_ledger.specs.Arrays.{numbers_of}
use Rattle.share_ledger.proofs.FundingSumLemmas.{subtract_all-fits}
use Rattle.share_ledger.proofs.valuation.subtract_all.Goals as goal

pub overflow_sub-weights : goal.overflow_sub-weights
overflow_sub-weights c =
    subtract_all-fits c.args.funding_tickets.now c.loop-funding_ticket.funding_ticket-index _
    (numbers_of c.args.weights.now)
    (numbers_of c.loop-funding_ticket.weights) c.requires.within c.loop-funding_ticket-test.true
    c.requires.covered c.loop-funding_ticket.invariant.lowered
