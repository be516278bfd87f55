use Rattle.std.proofs.Common.{◌+◌, false, set, sym, ap, ◌∙◌, arith}
use Rattle.share_ledger.specs.Arrays.{flags_of, numbers_of}
use Rattle.share_ledger.specs.FundingTickets.{amount_from}
use Rattle.share_ledger.proofs.WeightLemmas.{array-set, weight_from-rested}
use Rattle.share_ledger.proofs.valuation.rest.Goals as goal

pub subtract_all-requires-clause-covered : goal.subtract_all-requires-clause-covered
subtract_all-requires-clause-covered c = λ x below.
    let was = c.requires.counted x below in
    let loss = weight_from-rested _ _ c.requires.ticketed _ c.requires.place _ c.funding_tickets_at.ensures.value
    (flags_of c.args.active.now) (flags_of (set c.args.active.now c.args.place false)) c.requires.active
    (λ k. array-set c.args.active.now _ k false false
    (let long = c.told-active in let lt = c.requires.place in omega arith)) x in
    omega arith

pub returns-clause-counted : goal.returns-clause-counted
returns-clause-counted c = λ x below.
    let was = c.requires.counted x below in
    let now = c.subtract_all.ensures x below in
    let loss = weight_from-rested _ _ c.requires.ticketed _ c.requires.place _ c.funding_tickets_at.ensures.value
    (flags_of c.args.active.now) (flags_of (set c.args.active.now c.args.place false)) c.requires.active
    (λ k. array-set c.args.active.now _ k false false
    (let long = c.told-active in let lt = c.requires.place in omega arith)) x in
    omega arith

pub returns-clause-lowered : goal.returns-clause-lowered
returns-clause-lowered c = λ p lt.
    ap (λ ss. numbers_of c.subtract_all.new.weights p + amount_from ss p) (sym c.funding_tickets_at.ensures.value)
    ∙ c.subtract_all.ensures p lt
