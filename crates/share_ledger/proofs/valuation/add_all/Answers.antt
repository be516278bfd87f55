use Rattle.share_ledger.specs.Arrays.{numbers_of}
use Rattle.share_ledger.proofs.FundingSumLemmas.{add_all-fits}
use Rattle.share_ledger.proofs.valuation.add_all.Goals as goal

pub overflow_add-weights : goal.overflow_add-weights
overflow_add-weights c =
    add_all-fits c.args.funding_tickets.now c.loop-funding_ticket.funding_ticket-index _ (numbers_of c.args.weights.now)
    (numbers_of c.loop-funding_ticket.weights) c.requires.within c.requires.few c.loop-funding_ticket-test.true
    c.requires.small c.loop-funding_ticket.invariant.raised
