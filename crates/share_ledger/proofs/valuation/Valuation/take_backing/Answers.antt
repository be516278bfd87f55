use Rattle.std.proofs.Common.{ℕ, true, false, List, ap, arith}
use Rattle.std.proofs.lemmas.Bool.Decides.{nat_tests}
use Rattle.share_ledger.specs.Arrays.{numbers_of}
use Rattle.share_ledger.specs.FundingTickets.{backs_of, funds_of}
use Rattle.share_ledger.proofs.FundingChangeLemmas.{gain-held, counted-taken, ticketed-less, ticketed-back, ranked-less}
use Rattle.share_ledger.proofs.FundingCountLemmas.{funding_ticket-there}
use Rattle.share_ledger.proofs.valuation.Valuation.take_backing.Goals as goal

pub remove_funding_ticket-requires-clause-has : goal.remove_funding_ticket-requires-clause-has
remove_funding_ticket-requires-clause-has c =
    let b = c.requires.begun in
    funding_ticket-there b.0 (backs_of c.args.tables.now) c.args.route.now c.args.self.now.backing.items b.1.1.0.backing
    c.requires.within.to_place b.1.1.1

pub subtract_one-requires-clause-covered : goal.subtract_one-requires-clause-covered
subtract_one-requires-clause-covered c =
    let g = c.args.tables.now in
    let r = c.args.route.now in
    let b = c.requires.begun in
    let held =
    gain-held (backs_of g) (funds_of g) _ _ r true false _ _ b.1.1.1 b.1.1.2 _ b.1.1.0.counted r.from
    c.requires.within.from_place in
    let amount = c.amount_if-amount.ensures in
    let same = ap (λ (ws : List ℕ). numbers_of ws r.from) c.deref_mut.ensures.value in
    grind (arith, nat_tests)

pub returns-clause-begun : goal.returns-clause-begun
returns-clause-begun c =
    let g = c.args.tables.now in
    let old = c.args.self.now in
    let r = c.args.route.now in
    let b = c.requires.begun in
    let backs = b.0 in
    let funds = b.1.0 in
    let was = b.1.1.0 in
    let gb = b.1.1.1 in
    let gf = b.1.1.2 in
    let out = c.remove_funding_ticket.ensures.out in
    record {
      backing = ticketed-less backs (backs_of g) r old.backing.items c.remove_funding_ticket.new.holders.items
          was.backing gb
          c.remove_funding_ticket.ensures.others
          out c.remove_funding_ticket.ensures.places;
      funding = ticketed-back funds (funds_of g) r old.funding.items was.funding gf;
      ranked = ranked-less backs (backs_of g) r old.backing.items c.remove_funding_ticket.new.holders.items was.backing
          gb
          c.remove_funding_ticket.ensures.others out (numbers_of old.ranks.value) was.ranked;
      listed = was.listed;
      active_is = was.active_is;
      counted = counted-taken _ _ _ _ r true false _ _ gb gf _ _ was.counted (λ p lt.
          let shrank = c.subtract_one.ensures p lt in
          let amount = c.amount_if-amount.ensures in
          grind (arith, nat_tests));
      small = was.small;
    }
