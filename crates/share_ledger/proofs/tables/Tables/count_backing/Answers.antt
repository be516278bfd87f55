use Rattle.std.proofs.Common.{List, length, ap, ◌∙◌}
use Rattle.share_model.proofs.lemmas.funding.RefusalLemmas.{stands}
use Rattle.share_ledger.specs.declared.funding_tickets.FundingTicket.{FundingTicket}
use Rattle.share_ledger.specs.FundingTickets.{funding_tickets_at}
use Rattle.share_ledger.proofs.FundingCountLemmas.{backing-count}
use Rattle.share_ledger.proofs.tables.Tables.count_backing.Goals as goal

pub place_of-requires : goal.place_of-requires
place_of-requires c = stands c.args.self.now c.args.name c.requires.known

pub returns : goal.returns
returns c =
    let g = c.args.self.now in
    let ticketed = c.requires.ticketed.ticketed in
    ap length c.funding_tickets_at.ensures.value
    ∙ ap (λ (ss : List (List FundingTicket)). length (funding_tickets_at ss c.place_of.result)) c.deref.ensures.value
    ∙ ap (λ q. length (funding_tickets_at c.args.valuation.now.backing.items q)) c.place_of.ensures.value
    ∙ backing-count g c.is_well_formed.ensures c.args.valuation.now.backing.items ticketed c.args.name
    (stands g c.args.name c.requires.known)
