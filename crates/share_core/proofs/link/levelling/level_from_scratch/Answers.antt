use Rattle.std.proofs.Common.{arith}
use Rattle.share_model.specs.link.Live.{tickets_of_all}
use Rattle.share_core.proofs.LevellingLemmas.{tickets_of_all-count, left-can, left-none, done-start, done-next}
use Rattle.share_core.proofs.LevellingLemmas.{kept-all}
use Rattle.share_core.proofs.link.levelling.level_from_scratch.Goals as goal

pub loop-place-init : goal.loop-place-init
loop-place-init c =
    done-start _ (tickets_of_all c.args.ledger.now) c.args.levelled_with.now
    (omega (arith, tickets_of_all-count c.args.ledger.now, c.is_well_formed.ensures.few_flows)) c.told-levelled_with
    c.requires

pub level_at-requires-clause-can : goal.level_at-requires-clause-can
level_at-requires-clause-can c =
    left-can _ _ (tickets_of_all c.args.ledger.now) c.loop-place.place
    (omega (arith, tickets_of_all-count c.args.ledger.now, c.loop-place-test.true, c.flow_count-place-end.ensures))
    c.loop-place.invariant.left

pub loop-place-preserved : goal.loop-place-preserved
loop-place-preserved c =
    done-next _ _ _ (tickets_of_all c.args.ledger.now) _ _ c.loop-place.place
    (omega (arith, tickets_of_all-count c.args.ledger.now, c.loop-place-test.true, c.flow_count-place-end.ensures))
    c.loop-place.invariant c.level_at.ensures.queue c.level_at.ensures.levelled_with
    (c.level_at.array_long)

pub returns-clause-queue : goal.returns-clause-queue
returns-clause-queue c =
    left-none _ _ (tickets_of_all c.args.ledger.now) c.loop-place.place
    (omega (arith, tickets_of_all-count c.args.ledger.now, c.loop-place-test.false, c.flow_count-place-end.ensures))
    c.loop-place.invariant.left

pub returns-clause-levelled_with : goal.returns-clause-levelled_with
returns-clause-levelled_with c =
    kept-all _ _ c.args.ledger.now _ c.loop-place.place
    (omega (arith, c.loop-place-test.false, c.loop-place.auto.place-end, c.flow_count-place-end.ensures))
    c.loop-place.invariant
