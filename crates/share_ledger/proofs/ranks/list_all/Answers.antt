use Rattle.share_ledger.proofs.FundingChainLemmas.{never-tall}
use Rattle.share_ledger.proofs.ranks.list_all.Goals as goal

pub unreachable-requires : goal.unreachable-requires
unreachable-requires c =
    let p = c.list.ensures.deep c.in_default.is in
    never-tall c.args.tables.now c.args.backing.now c.requires c.is_well_formed.ensures p.0 p.1.1.0 p.1.1.1
