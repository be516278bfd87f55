use Rattle.std.proofs.Common.{refl}
use Rattle.share_model.specs.declared.funding.Holder.TheVariants.{Flow}
use Rattle.share_model.specs.funding.Changes.{flow_number, flow_named}
use Rattle.share_ledger.proofs.HolderLemmas.{comes-to-fund, free-flow, free-held}
use Rattle.share_ledger.proofs.StalePlaceLemmas.{ready-was}
use Rattle.share_ledger.proofs.ledger.Ledger.fund_flow.Goals as goal

pub route_of-backing-requires : goal.route_of-backing-requires
route_of-backing-requires c =
    let g = c.self.inside.tables in
    free-held g c.fund_flow.new.self c.args.ticket (Flow (flow_number (flow_named g c.args.flow)))
    c.in_ok-fund_flow.ensures.done.1 refl
    (free-flow g c.args.ticket c.args.flow c.in_ok-fund_flow.ensures.done.0)

pub give-requires-clause-begun : goal.give-requires-clause-begun
give-requires-clause-begun c =
    let g = c.self.inside.tables in
    comes-to-fund g c.fund_flow.new.self c.args.ticket (Flow (flow_number (flow_named g c.args.flow)))
    c.self.inside.cache.valuation _ _ c.in_ok-fund_flow.ensures.done.1
    (free-flow g c.args.ticket c.args.flow c.in_ok-fund_flow.ensures.done.0) c.self.invariant.valuation_ready.begun
    c.route_of-backing.ensures.routed

pub give-requires-clause-was : goal.give-requires-clause-was
give-requires-clause-was c = ready-was _ _ _ _ _ _ _ c.self.invariant.valuation_ready
