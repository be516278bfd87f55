use Rattle.std.proofs.Common.{refl}
use Rattle.share_model.specs.declared.funding.Holder.TheVariants.{Currency}
use Rattle.share_ledger.proofs.HolderLemmas.{comes-to-fund, free-currency, free-held}
use Rattle.share_ledger.proofs.StalePlaceLemmas.{ready-was}
use Rattle.share_ledger.proofs.ledger.Ledger.fund_currency.Goals as goal

pub route_of-backing-requires : goal.route_of-backing-requires
route_of-backing-requires c =
    free-held c.self.inside.tables c.fund_currency.new.self c.args.ticket (Currency c.args.currency)
    c.in_ok-fund_currency.ensures.done.1 refl
    (free-currency c.self.inside.tables c.args.ticket c.args.currency c.in_ok-fund_currency.ensures.done.0)

pub give-requires-clause-begun : goal.give-requires-clause-begun
give-requires-clause-begun c =
    let g = c.self.inside.tables in
    comes-to-fund g c.fund_currency.new.self c.args.ticket (Currency c.args.currency) c.self.inside.cache.valuation _ _
    c.in_ok-fund_currency.ensures.done.1
    (free-currency g c.args.ticket c.args.currency c.in_ok-fund_currency.ensures.done.0)
    c.self.invariant.valuation_ready.begun c.route_of-backing.ensures.routed

pub give-requires-clause-was : goal.give-requires-clause-was
give-requires-clause-was c = ready-was _ _ _ _ _ _ _ c.self.invariant.valuation_ready
