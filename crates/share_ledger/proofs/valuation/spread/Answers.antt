use Rattle.std.proofs.Common.{◌≡◌, ◌≤◌, ◌<◌, ◌+◌, ◌-◌, ◌∙◌, ℕ, Bool, true, false, nat_eq, nat_lt}
use Rattle.std.proofs.Common.{refl, sym, ap, subst, inl, inr, arith}
use Rattle.std.proofs.lemmas.Bool.{eqb-true, cases_lt}
use Rattle.share_ledger.specs.Ranks.{AreOrdered}
use Rattle.share_ledger.specs.Arrays.{flags_of, numbers_of}
use Rattle.share_ledger.specs.FundingTickets.{funding_tickets_at}
use Rattle.share_ledger.proofs.WeightLemmas.{amount_from-none, next-spot, next-before, not-next}
use Rattle.share_ledger.proofs.StalePlaceLemmas.{order-above}
use Rattle.share_ledger.proofs.valuation.spread.Goals as goal

pub loop-i-preserved : goal.loop-i-preserved
loop-i-preserved c = record {
  counted = c.recompute_place.ensures.counted;
  computed = λ o k up lt past. by o k up lt past (nat_eq (numbers_of c.args.order.now (64 - c.loop-i.i)) k) refl;
}
  where
    inside : (0 < 64 - c.loop-i.i) × (64 - c.loop-i.i < 65)
    inside = let test = c.loop-i-test.true in (omega arith, omega arith)

    still : (o : AreOrdered c.args.backing.now (numbers_of c.args.order.now)) (k : ℕ) → k < 65
        → 64 - c.loop-i.i ≤ o.spot k
        → numbers_of c.recompute_place.new.weights k ≡ numbers_of c.loop-i.weights k
    still o k lt past =
        c.recompute_place.ensures.left k lt
        (amount_from-none o.spot (64 - c.loop-i.i) k
        (funding_tickets_at c.args.backing.now (numbers_of c.args.order.now (64 - c.loop-i.i))) past
        (next-before c.args.backing.now (numbers_of c.args.order.now) o (64 - c.loop-i.i) inside.0 inside.1))

    -- two spots of the order have two places
    beyond : (o : AreOrdered c.args.backing.now (numbers_of c.args.order.now)) (k : ℕ) → k < 65
        → 64 - (c.loop-i.i + 1) < o.spot k → nat_eq (numbers_of c.args.order.now (64 - c.loop-i.i)) k ≡ false
        → 64 - c.loop-i.i < o.spot k
    beyond o k lt past e =
        let test = c.loop-i-test.true in
        elim (cases_lt (64 - c.loop-i.i) (o.spot k)) [
          | inl less ↦ less
          | inr most ↦
              let under =
              not-next c.args.backing.now (numbers_of c.args.order.now) o (64 - c.loop-i.i) inside.0 inside.1 k lt e
              (omega arith) in
              absurd (omega arith)
        ]

    by : (o : AreOrdered c.args.backing.now (numbers_of c.args.order.now)) (k : ℕ) → 0 < k → k < 65
        → 64 - (c.loop-i.i + 1) < o.spot k → (b : Bool) → nat_eq (numbers_of c.args.order.now (64 - c.loop-i.i)) k ≡ b
        → flags_of c.recompute_place.new.awake k ≡ nat_lt 0 (numbers_of c.recompute_place.new.weights k)
    by o k up lt past true e =
        let at = eqb-true (numbers_of c.args.order.now (64 - c.loop-i.i)) k e in
        let spot = next-spot c.args.backing.now (numbers_of c.args.order.now) o (64 - c.loop-i.i) inside.0 inside.1 in
        subst (λ q. flags_of c.recompute_place.new.awake q ≡ nat_lt 0 (numbers_of c.recompute_place.new.weights q)) at
        (c.recompute_place.ensures.computed
        (amount_from-none o.spot (64 - c.loop-i.i) (numbers_of c.args.order.now (64 - c.loop-i.i))
        (funding_tickets_at c.args.backing.now (numbers_of c.args.order.now (64 - c.loop-i.i))) (omega arith)
        (next-before c.args.backing.now (numbers_of c.args.order.now) o (64 - c.loop-i.i) inside.0 inside.1)))
    by o k up lt past false e =
        let later : 64 - c.loop-i.i < o.spot k = beyond o k lt past e in
        c.recompute_place.ensures.others k e ∙ c.loop-i.invariant.computed o k up lt later
        ∙ ap (nat_lt 0) (sym (still o k lt (omega arith)))

pub returns-clause-awake : goal.returns-clause-awake
returns-clause-awake c = λ p up lt.
    c.loop-i.invariant.computed c.requires.ordered p up lt
    (let done = c.loop-i-test.false in
    let spot = order-above c.args.backing.now (numbers_of c.args.order.now) c.requires.ordered p up lt in
    omega arith)
