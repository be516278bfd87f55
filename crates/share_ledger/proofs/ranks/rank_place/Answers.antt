use Rattle.std.proofs.Common.{◌<◌, ◌∙◌, sym, arith}
use Rattle.share_model.proofs.lemmas.lists.FirstItemLemmas.{each_map}
use Rattle.share_ledger.specs.declared.funding_tickets.FundingTicket.{FundingTicket}
use Rattle.share_ledger.specs.FundingTickets.{funding_tickets_at, IsFundingTicketWithin}
use Rattle.share_ledger.proofs.RankLemmas.{placed, passed}
use Rattle.share_ledger.proofs.ranks.rank_place.Goals as goal

pub returns-then-not-is_due : goal.returns-then-not-is_due
returns-then-not-is_due c =
    passed c.args.backing.now c.args.edge c.args.ranking.now c.args.rank
    c.args.place c.requires.ranked c.requires.first c.requires.made c.requires.place c.requires.from_place
    (each_map IsFundingTicketWithin (λ (s : FundingTicket). s.from < 65) (λ s w. w.from_place)
    (funding_tickets_at c.args.backing.now c.args.place)
    (c.requires.within c.args.place c.requires.place))
    (sym c.is_due.ensures ∙ c.if-not-is_due.true)

pub bounds-ranking-ranking : goal.bounds-ranking-ranking
bounds-ranking-ranking c =
    (placed c.args.backing.now c.args.edge c.args.ranking.now c.args.rank
    c.args.place c.requires.ranked c.requires.first c.requires.last c.requires.made c.requires.place
    c.requires.from_place (sym c.is_due.ensures ∙ c.if-not-is_due.false)).0

pub overflow_add-ranking : goal.overflow_add-ranking
overflow_add-ranking c = let room = bounds-ranking-ranking c in omega arith

pub returns : goal.returns
returns c =
    (placed c.args.backing.now c.args.edge c.args.ranking.now c.args.rank
    c.args.place c.requires.ranked c.requires.first c.requires.last c.requires.made c.requires.place
    c.requires.from_place (sym c.is_due.ensures ∙ c.if-not-is_due.false)).1
