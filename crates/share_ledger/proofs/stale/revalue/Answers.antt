use Rattle.std.proofs.Common.{◌≡◌, ◌<◌, ℕ, List, false, ap, arith}
use Rattle.share_ledger.specs.Arrays.{flags_of, numbers_of}
use Rattle.share_ledger.specs.Stale.{is_stale}
use Rattle.share_ledger.specs.declared.stale.Moved.{Moved}
use Rattle.share_ledger.proofs.WeightLemmas.{next-small}
use Rattle.share_ledger.proofs.StalePlaceLemmas.{next-left, next-same, next-valued, order-above}
use Rattle.share_ledger.proofs.stale.revalue.Goals as goal
use Rattle.std.proofs.lemmas.Bool.Decides.{nat_tests}

pub loop-i-init : goal.loop-i-init
loop-i-init c = grind (arith, nat_tests, order-above)

pub loop-i-preserved : goal.loop-i-preserved
loop-i-preserved c =
    let order = numbers_of c.args.order.now in
    let ss = c.args.backing.now in
    let on = flags_of c.args.awake.now in
    let moved = flags_of c.loop-i.moved.flags in
    let next = flags_of c.renew_at.new.moved.flags in
    let v = numbers_of c.args.values.now in
    let w = numbers_of c.loop-i.values in
    let x = numbers_of c.renew_at.new.values in
    let s = numbers_of c.args.seen.now in
    let u = numbers_of c.args.weights.now in
    let i = c.loop-i.i in
    let up : 0 < i = omega arith in
    let lt = c.loop-i-test.true in
    let stale = is_stale ss moved u s c.args.changed (order i) in
    let fresh : stale ≡ false → ((k : ℕ) → next k ≡ moved k) × ((k : ℕ) → x k ≡ w k) =
    λ e.
    let two = c.renew_at.ensures.fresh e in (
      λ k. ap (λ (m : Moved). flags_of m.flags k) two.0,
      λ k. ap (λ (xs : List ℕ). numbers_of xs k) two.1,
    ) in
    let wrote = c.renew_at.ensures.values in
    let flagged = c.renew_at.ensures.moved in
    let inv = c.loop-i.invariant in
    record {
      bits = c.renew_at.ensures.bits;
      small = c.renew_at.ensures.small;
      left = λ o. next-left ss order o i up lt on c.args.changed moved next v w x s u c.requires.awake c.requires.were
          fresh wrote flagged (inv.left o) (inv.same o);
      same = λ o. next-same ss order o i up lt on c.args.changed moved next v w x s u c.requires.awake c.requires.were
          fresh wrote flagged (inv.left o) (inv.same o);
      valued = λ o. next-valued ss order o i up lt on c.args.changed moved next v w x s u c.requires.awake
          c.requires.were fresh wrote flagged (inv.left o) (inv.same o) (inv.valued o);
    }

pub returns-clause-valued : goal.returns-clause-valued
returns-clause-valued c = λ p up lt.
    let o = c.requires.ordered in
    c.loop-i.invariant.valued o p up lt
    (let there = (o.there p lt).0 in let done = c.loop-i-test.false in omega arith)

pub returns-clause-moved : goal.returns-clause-moved
returns-clause-moved c = λ p up lt still.
    let o = c.requires.ordered in
    c.loop-i.invariant.same o p up lt
    (let there = (o.there p lt).0 in let done = c.loop-i-test.false in omega arith) still

pub renew_at-requires-clause-bound : goal.renew_at-requires-clause-bound
renew_at-requires-clause-bound c =
    next-small c.args.backing.now (numbers_of c.args.order.now) c.requires.ordered c.loop-i.i (omega arith)
    c.loop-i-test.true (flags_of c.args.awake.now) (numbers_of c.loop-i.values) (numbers_of c.args.weights.now)
    c.requires.values (c.loop-i.invariant.valued c.requires.ordered)
