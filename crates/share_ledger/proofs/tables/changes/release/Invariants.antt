use Rattle.std.proofs.Common.{◌≡◌, ◌++◌, map, take, drop}
use Rattle.share_model.specs.funding.Changes.{release_from}
use Rattle.share_ledger.proofs.tables.changes.release.Given as goal

abbrev pub invariant-loop-ticket : goal.invariant-loop-ticket
invariant-loop-ticket l =
    l.tickets ≡ map (release_from l.flow) (take l.ticket-index l.fn.tickets) ++ drop l.ticket-index l.fn.tickets
