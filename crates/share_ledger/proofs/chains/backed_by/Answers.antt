use Rattle.std.proofs.Common.{◌<◌, ◌≡◌, ℕ, false, cond, nat_eq, set, ap, ◌∙◌, arith}
use Rattle.std.proofs.lemmas.Bool.Decides.{nat_tests}
use Rattle.std.proofs.lemmas.List.{length-set}
use Rattle.share_ledger.specs.Arrays.{flags_of, numbers_of}
use Rattle.share_ledger.proofs.CycleLemmas.{backed-more}
use Rattle.share_ledger.proofs.WeightLemmas.{array-set, next-above}
use Rattle.share_ledger.proofs.StalePlaceLemmas.{order-above}
use Rattle.share_ledger.proofs.chains.backed_by.Goals as goal

pub loop-i-init : goal.loop-i-init
loop-i-init c = grind (arith, nat_tests, order-above)

pub loop-i-preserved : goal.loop-i-preserved
loop-i-preserved c =
    let ss = c.args.backing.now in
    let order = numbers_of c.args.order.now in
    let i = c.loop-i.i in
    let lt = c.loop-i-test.true in
    let long = c.loop-i.invariant.long in
    let own = c.is_backed.result in
    let up : 0 < i = omega arith in
    let within = (c.requires.ordered.back i lt).0 in
    let wrote = λ (k : ℕ). array-set c.loop-i.flags (order i) k own false (omega arith) in
    record {
      long = length-set c.loop-i.flags (order i) own ∙ long;
      base = wrote 0 ∙ ap (λ b. cond b own (flags_of c.loop-i.flags 0))
          (above (order i) (next-above ss order c.requires.ordered i up lt)) ∙ c.loop-i.invariant.base;
      step = λ o. backed-more ss order o i up lt c.args.first (flags_of c.loop-i.flags)
          (flags_of (set c.loop-i.flags (order i) own)) own wrote c.is_backed.ensures (c.loop-i.invariant.step o);
    }
  where
    above : (n : ℕ) → 0 < n → nat_eq n 0 ≡ false
    above n up = grind (arith, nat_tests)

pub returns : goal.returns
returns c =
    let o = c.requires.ordered in
    record {
      base = c.loop-i.invariant.base;
      step = λ p up lt. c.loop-i.invariant.step o p up lt
          (let there = (o.there p lt).0 in let done = c.loop-i-test.false in omega arith);
    }
