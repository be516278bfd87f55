use Rattle.std.proofs.Common.{◌≡◌, ◌≤◌, ◌^◌, ℕ, true, false, List, ap, arith}
use Rattle.std.proofs.lemmas.Bool.Decides.{nat_tests}
use Rattle.share_ledger.specs.Arrays.{flags_of, numbers_of}
use Rattle.share_ledger.specs.FundingTickets.{backs_of, funds_of}
use Rattle.share_ledger.proofs.FundingChangeLemmas.{counted-given, less-bound, ticketed-more, ticketed-same, sum-bound}
use Rattle.share_ledger.proofs.FundingCountLemmas.{room-more}
use Rattle.share_ledger.proofs.valuation.Valuation.add_funding.Goals as goal

pub add_one-requires-clause-small : goal.add_one-requires-clause-small
add_one-requires-clause-small c = λ p lt.
    let g = c.args.tables.now in
    let old = c.args.self.now in
    let b = c.requires.begun in
    let bound : numbers_of old.weights.value p ≤ 2 ^ 31 =
    less-bound _ _ _ _ _ false true _ _ b.1.1.1 b.1.1.2 _ b.1.1.0.counted p (2 ^ 31) lt
    (sum-bound g (flags_of old.awake.value) (flags_of old.active.value) c.is_well_formed.ensures p) in
    let same : numbers_of c.deref_mut.result.now p ≡ numbers_of old.weights.value p =
    ap (λ (ws : List ℕ). numbers_of ws p) c.deref_mut.ensures.value in
    omega (arith, bound, same)

pub add_funding_ticket-requires-clause-room : goal.add_funding_ticket-requires-clause-room
add_funding_ticket-requires-clause-room c =
    let b = c.requires.begun in
    room-more c.args.tables.now c.is_well_formed.ensures false b.1.0 c.args.route.now c.args.self.now.funding.items
    b.1.1.0.funding c.requires.within.to_place b.1.1.2

pub returns-clause-begun : goal.returns-clause-begun
returns-clause-begun c =
    let g = c.args.tables.now in
    let old = c.args.self.now in
    let r = c.args.route.now in
    let b = c.requires.begun in
    let backs = b.0 in
    let funds = b.1.0 in
    let was = b.1.1.0 in
    let gb = b.1.1.1 in
    let gf = b.1.1.2 in
    let joined = c.add_funding_ticket.ensures.ticketed in
    record {
      backing = ticketed-same backs (backs_of g) r old.backing.items was.backing gb;
      funding = ticketed-more funds (funds_of g) r old.funding.items c.add_funding_ticket.new.holders.items was.funding
          c.requires.within gf
          joined c.add_funding_ticket.ensures.places;
      ranked = was.ranked;
      listed = was.listed;
      active_is = was.active_is;
      counted = counted-given _ _ _ _ r false true _ _ gb gf _ _ was.counted (λ p lt.
          let grew = c.add_one.ensures p lt in
          let amount = c.amount_if-amount.ensures in
          grind (arith, nat_tests));
      small = was.small;
    }
