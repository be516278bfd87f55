use Rattle.std.proofs.Common.{get_or, set, ap, ◌∙◌}
use Rattle.std.proofs.lemmas.List.Edits.{map_over_more}
use Rattle.share_model.specs.funding.Changes.{release_from}
use Rattle.share_ledger.proofs.tables.changes.release.Goals as goal

pub loop-ticket-preserved : goal.loop-ticket-preserved
loop-ticket-preserved c =
    ap (set c.loop-ticket.tickets c.loop-ticket.ticket-index) c.release_from.ensures
    ∙ map_over_more (release_from c.args.flow) c.args.tickets.now c.loop-ticket.tickets c.loop-ticket.ticket-index
    (get_or c.loop-ticket.tickets c.loop-ticket.ticket-index c.ticket-item.result)
    c.loop-ticket-test.true c.loop-ticket.invariant
    (ap (get_or c.loop-ticket.tickets c.loop-ticket.ticket-index) c.ticket-item.is)
