use Rattle.std.proofs.Common.{rules}
use Rattle.share_ledger.specs.Arrays.{flags_of, numbers_of}
use Rattle.share_ledger.proofs.EquationLemmas.{values-there}
use Rattle.share_ledger.proofs.StalePlaceLemmas.{shared-still}
use Rattle.share_ledger.proofs.valuation.Valuation.follow_changed.Goals as goal

pub returns-clause-ready : goal.returns-clause-ready
returns-clause-ready c =
    let old = c.args.self.now in
    let begun = c.requires.begun in
    record {
      begun = record {
        backing = begun.backing;
        funding = begun.funding;
        ranked = begun.ranked;
        listed = begun.listed;
        active_is = begun.active_is;
        counted = search rules;
        small = search rules;
      };
      awake_is = search rules;
      valued = search rules;
      shared = shared-still (flags_of c.revalue-moved.result.flags) (numbers_of old.values.value)
          (numbers_of c.revalue-moved.new.values) (numbers_of old.seen.value) (numbers_of c.spread.new.weights)
          old.funding.items (flags_of old.active.value) (numbers_of c.args.tickets_of_all.now)
          (numbers_of c.reshare.new.tickets_of_all)
          c.args.flow begun.funding.within (search rules) (λ p lt. let own = c.reshare.ensures p lt in cc)
          c.requires.was.shared;
      seen_is = search rules;
    }

pub revalue-moved-requires-clause-values : goal.revalue-moved-requires-clause-values
revalue-moved-requires-clause-values c =
    values-there c.args.tables.now _ _ _ _ _ _ _ c.is_well_formed.ensures c.requires.begun c.spread.ensures.counted
    c.spread.ensures.awake c.deref-2.ensures c.deref-4.ensures.value c.deref-5.ensures c.deref-6.ensures
