use Rattle.std.proofs.Common.{◌≡◌, cond, nat_eq, sym, subst}
use Rattle.share_model.specs.funding.Graph.{Graph}
use Rattle.share_ledger.specs.Valuations.{activity_of, IsReady}
use Rattle.share_ledger.specs.Arrays.{flags_of}
use Rattle.share_ledger.specs.FundingTickets.{backs_of, funds_of}
use Rattle.share_ledger.proofs.UnchangedRouteLemmas.{turned-below, turned-ready, turned-activity}
use Rattle.share_ledger.proofs.ledger.Ledger.set_active.Goals as goal

pub set_active-requires-in-Some-clause-place : goal.set_active-requires-in-Some-clause-place
set_active-requires-in-Some-clause-place c =
    let cache = c.self.inside.cache in
    turned-below c.self.inside.tables c.is_well_formed.ensures cache.valuation cache.tickets_of_all.value c.args.flow
    c.args.active
    c.in-Some.place c.in-Some.ensures.place

pub set_active-requires-in-Some-clause-ready : goal.set_active-requires-in-Some-clause-ready
set_active-requires-in-Some-clause-ready c =
    let cache = c.self.inside.cache in
    subst
    (λ (g : Graph). IsReady cache.valuation cache.tickets_of_all.value (backs_of g) (funds_of g)
    (flags_of cache.valuation.active.value))
    (sym c.set_active.ensures.change)
    (turned-ready c.self.inside.tables c.is_well_formed.ensures cache.valuation cache.tickets_of_all.value
    c.args.flow c.args.active
    c.in-Some.place c.in-Some.ensures.place c.self.invariant.valuation_ready)

pub set_active-requires-in-Some-clause-turned : goal.set_active-requires-in-Some-clause-turned
set_active-requires-in-Some-clause-turned c = λ k.
    let cache = c.self.inside.cache in
    subst
    (λ (g : Graph). activity_of g k ≡ cond (nat_eq c.in-Some.place k)
    c.args.active (flags_of cache.valuation.active.value k))
    (sym c.set_active.ensures.change)
    (turned-activity c.self.inside.tables c.is_well_formed.ensures cache.valuation cache.tickets_of_all.value
    c.args.flow
    c.args.active
    c.in-Some.place c.in-Some.ensures.place c.self.invariant.valuation_ready k)
