use Rattle.std.proofs.Common.{true, false, arith, set}
use Rattle.share_ledger.specs.Arrays.{flags_of}
use Rattle.share_ledger.proofs.WeightLemmas.{array-set, weight_from-woken, weight_from-rested, counted-bound}
use Rattle.share_ledger.proofs.valuation.flip.Goals as goal
use Rattle.std.proofs.lemmas.Bool.Decides.{nat_tests}

pub subtract_all-requires-clause-covered : goal.subtract_all-requires-clause-covered
subtract_all-requires-clause-covered c = λ x below.
    let was = c.requires.counted x below in
    let moved = weight_from-rested _ _ c.requires.ticketed _ c.requires.place _
    c.funding_tickets_at-funding_tickets.ensures.value
    (flags_of c.args.awake.now) (flags_of (set c.args.awake.now c.args.place false)) c.if-awake-place.true
    (λ k. array-set c.args.awake.now _ k false false
    (let long = c.told-awake in let lt = c.requires.place in omega arith)) x in
    omega arith

pub returns-then-awake-place-clause-counted : goal.returns-then-awake-place-clause-counted
returns-then-awake-place-clause-counted c = λ x below.
    let was = c.requires.counted x below in
    let now = c.subtract_all.ensures x below in
    let moved = weight_from-rested _ _ c.requires.ticketed _ c.requires.place _
    c.funding_tickets_at-funding_tickets.ensures.value
    (flags_of c.args.awake.now) (flags_of (set c.args.awake.now c.args.place false)) c.if-awake-place.true
    (λ k. array-set c.args.awake.now _ k false false
    (let long = c.told-awake in let lt = c.requires.place in omega arith)) x in
    omega arith

pub returns-then-awake-place-clause-left : goal.returns-then-awake-place-clause-left
returns-then-awake-place-clause-left c = grind (arith, nat_tests)

pub add_all-requires-clause-small : goal.add_all-requires-clause-small
add_all-requires-clause-small c = counted-bound _ _ _ _ c.is_well_formed.ensures c.requires.counted

pub returns-clause-counted : goal.returns-clause-counted
returns-clause-counted c = λ x below.
    let was = c.requires.counted x below in
    let now = c.add_all.ensures x below in
    let moved = weight_from-woken _ _ c.requires.ticketed _ c.requires.place _
    c.funding_tickets_at-funding_tickets.ensures.value
    (flags_of c.args.awake.now) (flags_of (set c.args.awake.now c.args.place true)) c.if-awake-place.false
    (λ k. array-set c.args.awake.now _ k true false
    (let long = c.told-awake in let lt = c.requires.place in omega arith)) x in
    omega arith

pub returns-clause-left : goal.returns-clause-left
returns-clause-left c = grind (arith, nat_tests)
