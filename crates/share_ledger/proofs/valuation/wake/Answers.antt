use Rattle.std.proofs.Common.{◌+◌, true, false, set, ap, ◌∙◌, arith}
use Rattle.share_ledger.specs.Arrays.{flags_of, numbers_of}
use Rattle.share_ledger.specs.FundingTickets.{amount_from}
use Rattle.share_ledger.proofs.WeightLemmas.{array-set, weight_from-woken, counted-bound}
use Rattle.share_ledger.proofs.valuation.wake.Goals as goal

pub add_all-requires-clause-small : goal.add_all-requires-clause-small
add_all-requires-clause-small c = counted-bound _ _ _ _ c.is_well_formed.ensures c.requires.counted

pub returns-clause-counted : goal.returns-clause-counted
returns-clause-counted c = λ x below.
    let was = c.requires.counted x below in
    let now = c.add_all.ensures x below in
    let gain = weight_from-woken _ _ c.requires.ticketed _ c.requires.place _ c.funding_tickets_at.ensures.value
    (flags_of c.args.active.now) (flags_of (set c.args.active.now c.args.place true)) c.requires.idle
    (λ k. array-set c.args.active.now _ k true false
    (let long = c.told-active in let lt = c.requires.place in omega arith)) x in
    omega arith

pub returns-clause-raised : goal.returns-clause-raised
returns-clause-raised c = λ p lt.
    c.add_all.ensures p lt ∙ ap (λ ss. numbers_of c.args.weights.now p + amount_from ss p)
    c.funding_tickets_at.ensures.value
