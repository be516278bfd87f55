use Rattle.std.proofs.Common.{sym, ◌∙◌}
use Rattle.share_model.proofs.lemmas.funding.TicketLemmas.{well_formed-fund_currency}
use Rattle.share_ledger.proofs.tables.Tables.fund_currency.Goals as goal

pub give-requires : goal.give-requires
give-requires c =
    well_formed-fund_currency c.args.self.now c.is_well_formed.ensures c.args.ticket c.args.currency
    (sym c.fund_currency_refusal.ensures ∙ c.in_default.is)
