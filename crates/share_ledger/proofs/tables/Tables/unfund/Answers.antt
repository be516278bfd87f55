use Rattle.share_model.proofs.lemmas.funding.TicketLemmas.{well_formed-unfund}
use Rattle.share_ledger.proofs.tables.Tables.unfund.Goals as goal

pub give-requires : goal.give-requires
give-requires c = well_formed-unfund _ c.is_well_formed.ensures c.args.ticket
