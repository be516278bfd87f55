use Rattle.std.proofs.Common.{◌≤◌, ◌*◌, ◌^◌, ℕ, Bool, true, false, cond, nat_eq, set, sym, subst, ◌∙◌, arith}
use Rattle.std.proofs.lemmas.List.{length-set}
use Rattle.share_ledger.specs.Arrays.{flags_of, numbers_of}
use Rattle.share_ledger.proofs.WeightLemmas.{array-set, valued-more, next-small}
use Rattle.share_ledger.proofs.StalePlaceLemmas.{order-above}
use Rattle.share_ledger.proofs.valuation.revalue.Goals as goal
use Rattle.std.proofs.lemmas.Bool.Decides.{nat_tests}

either_small : (b : Bool) (n m : ℕ) → n ≤ 9 * 2 ^ 30 → m ≤ 9 * 2 ^ 30 → cond b n m ≤ 9 * 2 ^ 30
either_small true n m p q = p
either_small false n m p q = q

pub loop-i-init : goal.loop-i-init
loop-i-init c = grind (arith, nat_tests, order-above)

pub loop-i-preserved : goal.loop-i-preserved
loop-i-preserved c =
    let long = c.loop-i.invariant.long in
    let lt = c.loop-i-test.true in
    let small =
    next-small c.args.backing.now (numbers_of c.args.order.now) c.requires.ordered c.loop-i.i (omega arith) lt
    (flags_of c.args.awake.now) (numbers_of c.loop-i.values) (numbers_of c.args.weights.now) c.requires.values
    (c.loop-i.invariant.valued c.requires.ordered) in
    let own = c.value_at.ensures in
    let place = numbers_of c.args.order.now c.loop-i.i in
    let within = (c.requires.ordered.back c.loop-i.i lt).0 in
    let wrote = λ (k : ℕ). array-set c.loop-i.values place k c.value_at.result 0 (omega arith) in
    record {
      long = length-set c.loop-i.values place c.value_at.result ∙ c.loop-i.invariant.long;
      small = λ p below. subst (λ n. n ≤ 9 * 2 ^ 30) (sym (wrote p))
          (either_small (nat_eq place p) c.value_at.result (numbers_of c.loop-i.values p)
          (omega arith) (c.loop-i.invariant.small p below));
      valued = λ o. valued-more c.args.backing.now (numbers_of c.args.order.now) o c.loop-i.i (omega arith) lt
          (flags_of c.args.awake.now) (numbers_of c.loop-i.values)
          (numbers_of (set c.loop-i.values place c.value_at.result))
          (numbers_of c.args.weights.now) c.value_at.result
          wrote c.value_at.ensures (c.loop-i.invariant.valued o);
    }

pub returns-clause-valued : goal.returns-clause-valued
returns-clause-valued c = λ p up lt.
    let o = c.requires.ordered in
    c.loop-i.invariant.valued o p up lt
    (let there = (o.there p lt).0 in let done = c.loop-i-test.false in omega arith)
