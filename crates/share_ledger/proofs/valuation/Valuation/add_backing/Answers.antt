use Rattle.std.proofs.Common.{◌≡◌, ◌≤◌, ◌^◌, ◌<◌, ℕ, true, false, List, sym, ap, subst, arith}
use Rattle.std.proofs.lemmas.Bool.Decides.{nat_tests}
use Rattle.share_ledger.specs.Arrays.{flags_of, numbers_of}
use Rattle.share_ledger.specs.declared.funding_tickets.FundingTicket.{FundingTicket}
use Rattle.share_ledger.specs.Ranks.{AreRanks}
use Rattle.share_ledger.specs.FundingTickets.{AreTicketed, backs_of, funds_of}
use Rattle.share_ledger.proofs.FundingChangeLemmas.{counted-given, less-bound, ticketed-more, ticketed-same}
use Rattle.share_ledger.proofs.FundingChangeLemmas.{ranked-more, sum-bound}
use Rattle.share_ledger.proofs.FundingCountLemmas.{room-more}
use Rattle.share_ledger.proofs.valuation.Valuation.add_backing.Goals as goal

pub add_one-requires-clause-small : goal.add_one-requires-clause-small
add_one-requires-clause-small c = λ p lt.
    let g = c.args.tables.now in
    let old = c.args.self.now in
    let b = c.requires.begun in
    let bound : numbers_of old.weights.value p ≤ 2 ^ 31 =
    less-bound _ _ _ _ _ true false _ _ b.1.1.1 b.1.1.2 _ b.1.1.0.counted p (2 ^ 31) lt
    (sum-bound g (flags_of old.awake.value) (flags_of old.active.value) c.is_well_formed.ensures p) in
    let same : numbers_of c.deref_mut-3.result.now p ≡ numbers_of old.weights.value p =
    ap (λ (ws : List ℕ). numbers_of ws p) c.deref_mut-3.ensures.value in
    omega (arith, bound, same)

pub add_funding_ticket-requires-clause-room : goal.add_funding_ticket-requires-clause-room
add_funding_ticket-requires-clause-room c =
    let b = c.requires.begun in
    room-more c.args.tables.now c.is_well_formed.ensures true b.0 c.args.route.now c.args.self.now.backing.items
    b.1.1.0.backing c.requires.within.to_place b.1.1.1

pub renew-requires-clause-ticketed : goal.renew-requires-clause-ticketed
renew-requires-clause-ticketed c =
    let b = c.requires.begun in
    subst (λ (ss : List (List FundingTicket)). AreTicketed (backs_of c.args.tables.now) ss) (sym c.deref.ensures.value)
    (ticketed-more b.0 (backs_of c.args.tables.now) c.args.route.now c.args.self.now.backing.items
    c.add_funding_ticket.new.holders.items
    b.1.1.0.backing c.requires.within b.1.1.1 c.add_funding_ticket.ensures.ticketed c.add_funding_ticket.ensures.places)

pub renew-requires-clause-ranked : goal.renew-requires-clause-ranked
renew-requires-clause-ranked c =
    let b = c.requires.begun in
    let r = c.args.route.now in
    subst (λ (ranks : List ℕ). numbers_of ranks r.from < numbers_of ranks r.to
    → AreRanks c.deref.result.now (numbers_of ranks)) (sym c.deref_mut.ensures.value)
    (λ below. subst (λ (ss : List (List FundingTicket)). AreRanks ss (numbers_of c.args.self.now.ranks.value))
    (sym c.deref.ensures.value)
    (ranked-more c.args.self.now.backing.items c.add_funding_ticket.new.holders.items c.args.route.now
    (numbers_of c.args.self.now.ranks.value) b.1.1.0.ranked below c.add_funding_ticket.ensures.ticketed))

pub renew-requires-clause-listed : goal.renew-requires-clause-listed
renew-requires-clause-listed c = grind (arith, nat_tests)

pub returns-clause-begun : goal.returns-clause-begun
returns-clause-begun c =
    let g = c.args.tables.now in
    let old = c.args.self.now in
    let r = c.args.route.now in
    let b = c.requires.begun in
    let backs = b.0 in
    let funds = b.1.0 in
    let was = b.1.1.0 in
    let gb = b.1.1.1 in
    let gf = b.1.1.2 in
    let joined = c.add_funding_ticket.ensures.ticketed in
    record {
      backing = ticketed-more backs (backs_of g) r old.backing.items c.add_funding_ticket.new.holders.items was.backing
          c.requires.within gb
          joined c.add_funding_ticket.ensures.places;
      funding = ticketed-same funds (funds_of g) r old.funding.items was.funding gf;
      ranked = subst (λ (ss : List (List FundingTicket)). AreRanks ss (numbers_of c.renew.new.ranks))
          c.deref.ensures.value
          c.renew.ensures.ranked;
      listed = c.renew.ensures.listed;
      active_is = was.active_is;
      counted = counted-given _ _ _ _ r true false _ _ gb gf _ _ was.counted (λ p lt.
          let grew = c.add_one.ensures p lt in
          let amount = c.amount_if-amount.ensures in
          grind (arith, nat_tests));
      small = was.small;
    }
