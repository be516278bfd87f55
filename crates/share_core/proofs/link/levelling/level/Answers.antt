use Rattle.std.proofs.Common.{arith, length, refl}
use Rattle.share_model.specs.link.Live.{tickets_of_all}
use Rattle.share_core.proofs.LevellingLemmas.{tickets_of_all-count, left-can, left-none, done-start, changed-next}
use Rattle.share_core.proofs.LevellingLemmas.{changed-to}
use Rattle.share_core.proofs.LevellingLemmas.{kept-all, well_formed-distinct, tickets-count}
use Rattle.share_core.proofs.link.levelling.level.Goals as goal

pub loop-changed-init : goal.loop-changed-init
loop-changed-init c = record {
  inside = omega arith;
  done = record {
    before = done-start _ (tickets_of_all c.args.ledger.now) c.args.levelled_with.now
        (omega (arith, tickets_of_all-count c.args.ledger.now, c.is_well_formed.ensures.few_flows)) c.told-levelled_with
        c.requires.can;
    after = λ k _. c.requires.levelled_with k;
  };
}

pub level_at-requires-clause-can : goal.level_at-requires-clause-can
level_at-requires-clause-can c =
    let g = c.args.ledger.now in
    let changed = c.in-Some.changed in
    let found = c.in-Some.ensures.some in
    let count = tickets-count g c.ticket_counts.result.now c.ticket_counts.ensures in
    let there = changed-to _ _ g _ c.ticket_counts.result.now c.loop-changed.place changed c.is_well_formed.ensures
    c.ticket_counts.ensures found.0 (omega (arith, found.1)) found.2 c.loop-changed.invariant.done in
    left-can _ _ (tickets_of_all g) changed (omega (arith, tickets_of_all-count g, count, found.1)) there.before.left

pub loop-changed-preserved : goal.loop-changed-preserved
loop-changed-preserved c =
    let g = c.args.ledger.now in
    let changed = c.in-Some.changed in
    let found = c.in-Some.ensures.some in
    let count = tickets-count g c.ticket_counts.result.now c.ticket_counts.ensures in
    let there = changed-to _ _ g _ c.ticket_counts.result.now c.loop-changed.place changed c.is_well_formed.ensures
    c.ticket_counts.ensures found.0 (omega (arith, found.1)) found.2 c.loop-changed.invariant.done in
    record {
      inside = omega (arith, count, found.1);
      done = changed-next _ _ _ (tickets_of_all g) _ _ changed (well_formed-distinct g c.is_well_formed.ensures)
          (omega (arith, tickets_of_all-count g, count, found.1)) there c.level_at.ensures.queue
          c.level_at.ensures.levelled_with
          c.level_at.array_long;
    }

pub returns-clause-queue : goal.returns-clause-queue
returns-clause-queue c =
    let g = c.args.ledger.now in
    let ts = c.ticket_counts.result.now in
    let count = tickets-count g ts c.ticket_counts.ensures in
    let there = changed-to _ _ g _ ts c.loop-changed.place (length ts) c.is_well_formed.ensures c.ticket_counts.ensures
    (omega (arith, count, c.loop-changed.invariant.inside)) (omega arith) (c.in_default.ensures.none refl)
    c.loop-changed.invariant.done in
    left-none _ _ (tickets_of_all g) (length ts) (omega (arith, tickets_of_all-count g, count)) there.before.left

pub returns-clause-levelled_with : goal.returns-clause-levelled_with
returns-clause-levelled_with c =
    let g = c.args.ledger.now in
    let ts = c.ticket_counts.result.now in
    let count = tickets-count g ts c.ticket_counts.ensures in
    let there = changed-to _ _ g _ ts c.loop-changed.place (length ts) c.is_well_formed.ensures c.ticket_counts.ensures
    (omega (arith, count, c.loop-changed.invariant.inside)) (omega arith) (c.in_default.ensures.none refl)
    c.loop-changed.invariant.done in
    kept-all _ _ g _ (length ts) count there.before
