use Rattle.std.proofs.Common.{◌≡◌, ◌≤◌, ◌^◌, ℕ, true, false, List, ap, arith}
use Rattle.std.proofs.lemmas.Bool.Decides.{nat_tests}
use Rattle.share_ledger.specs.Arrays.{flags_of, numbers_of}
use Rattle.share_ledger.specs.Routes.{amended}
use Rattle.share_ledger.specs.FundingTickets.{backs_of, funds_of}
use Rattle.share_ledger.proofs.FundingChangeLemmas.{gain-held, counted-taken, counted-given, less-bound, sum-bound}
use Rattle.share_ledger.proofs.FundingChangeLemmas.{ticketed-less}
use Rattle.share_ledger.proofs.FundingChangeLemmas.{ticketed-back, ticketed-same, ticketed-amended, ranked-amended}
use Rattle.share_ledger.proofs.FundingCountLemmas.{funding_ticket-there, room-more}
use Rattle.share_ledger.proofs.valuation.Valuation.amend_backing.Goals as goal

pub remove_funding_ticket-requires-clause-has : goal.remove_funding_ticket-requires-clause-has
remove_funding_ticket-requires-clause-has c =
    let b = c.requires.begun in
    let kept = b.1.1.1.1 in
    funding_ticket-there b.0 b.1.1.0 c.args.route.now c.args.self.now.backing.items kept.0.backing
    c.requires.within.to_place kept.1

pub add_funding_ticket-requires-clause-room : goal.add_funding_ticket-requires-clause-room
add_funding_ticket-requires-clause-room c =
    let b = c.requires.begun in
    let kept = b.1.1.1.1 in
    let r = c.args.route.now in
    let gone = c.remove_funding_ticket.ensures in
    room-more c.args.tables.now c.is_well_formed.ensures true b.1.1.0 (amended c.args.amount r)
    c.remove_funding_ticket.new.holders.items
    (ticketed-less b.0 b.1.1.0 r c.args.self.now.backing.items c.remove_funding_ticket.new.holders.items kept.0.backing
    kept.1 gone.others gone.out gone.places)
    c.requires.within.to_place kept.3

pub subtract_one-requires-clause-covered : goal.subtract_one-requires-clause-covered
subtract_one-requires-clause-covered c =
    let r = c.args.route.now in
    let b = c.requires.begun in
    let kept = b.1.1.1.1 in
    let held =
    gain-held b.1.1.0 b.1.1.1.0 _ _ r true false _ _ kept.1 kept.2 _ kept.0.counted r.from c.requires.within.from_place
    in
    let amount = c.amount_if-before.ensures in
    let same = ap (λ (ws : List ℕ). numbers_of ws r.from) c.deref_mut.ensures.value in
    grind (arith, nat_tests)

pub add_one-requires-clause-small : goal.add_one-requires-clause-small
add_one-requires-clause-small c = λ p lt.
    let g = c.args.tables.now in
    let old = c.args.self.now in
    let r = c.args.route.now in
    let b = c.requires.begun in
    let kept = b.1.1.1.1 in
    let bound : numbers_of c.subtract_one.new.weights p ≤ 2 ^ 31 =
    less-bound b.1.1.0 b.1.1.1.0 (backs_of g) (funds_of g) (amended c.args.amount r) true false
    (flags_of old.awake.value) (flags_of old.active.value) kept.3 kept.4 (numbers_of c.subtract_one.new.weights)
    (counted-taken _ _ _ _ r true false _ _ kept.1 kept.2 _ _ kept.0.counted (λ p lt.
    let shrank = c.subtract_one.ensures p lt in
    let amount = c.amount_if-before.ensures in
    let same = ap (λ (ws : List ℕ). numbers_of ws p) c.deref_mut.ensures.value in
    grind (arith, nat_tests)))
    p (2 ^ 31) lt
    (sum-bound g (flags_of old.awake.value) (flags_of old.active.value) c.is_well_formed.ensures p) in
    let same : numbers_of c.deref_mut-2.result.now p ≡ numbers_of c.subtract_one.new.weights p =
    ap (λ (ws : List ℕ). numbers_of ws p) c.deref_mut-2.ensures.value in
    omega (arith, bound, same)

pub returns-clause-begun : goal.returns-clause-begun
returns-clause-begun c =
    let g = c.args.tables.now in
    let old = c.args.self.now in
    let r = c.args.route.now in
    let b = c.requires.begun in
    let kept = b.1.1.1.1 in
    let was = kept.0 in
    let gone = c.remove_funding_ticket.ensures in
    let come = c.add_funding_ticket.ensures in
    let mid = c.remove_funding_ticket.new.holders.items in
    let next = c.add_funding_ticket.new.holders.items in
    record {
      backing =
          ticketed-amended b.0 b.1.1.0 (backs_of g) r c.args.amount old.backing.items mid next was.backing kept.1
          gone.others gone.out come.ticketed c.requires.within c.requires.small kept.3 gone.places come.places;
      funding =
          ticketed-same b.1.1.1.0 (funds_of g) (amended c.args.amount r) old.funding.items
          (ticketed-back b.1.0 b.1.1.1.0 r old.funding.items was.funding kept.2) kept.4;
      ranked =
          ranked-amended b.0 b.1.1.0 (backs_of g) r c.args.amount old.backing.items mid next was.backing kept.1
          gone.others gone.out come.ticketed (numbers_of old.ranks.value) was.ranked;
      listed = was.listed;
      active_is = was.active_is;
      counted =
          counted-given b.1.1.0 b.1.1.1.0 (backs_of g) (funds_of g) (amended c.args.amount r) true false _ _ kept.3
          kept.4 (numbers_of c.subtract_one.new.weights) _
          (counted-taken _ _ _ _ r true false _ _ kept.1 kept.2 _ _ was.counted (λ p lt.
          let shrank = c.subtract_one.ensures p lt in
          let amount = c.amount_if-before.ensures in
          grind (arith, nat_tests)))
          (λ p lt.
          let grew = c.add_one.ensures p lt in
          let amount = c.amount_if-after.ensures in
          grind (arith, nat_tests));
      small = was.small;
    }
