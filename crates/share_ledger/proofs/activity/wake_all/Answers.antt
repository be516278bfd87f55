use Rattle.std.proofs.Common.{◌+◌, ℕ, List, Bool, sym, ap, ◌∙◌}
use Rattle.share_ledger.specs.Valuations.{activity_of}
use Rattle.share_ledger.specs.Arrays.{flags_of, numbers_of}
use Rattle.share_ledger.specs.Routes.{weight_from}
use Rattle.share_ledger.specs.FundingTickets.{backs_of, funds_of}
use Rattle.share_ledger.proofs.FundingFillLemmas.{activity-here, before-wakes, before-idle}
use Rattle.share_ledger.proofs.activity.wake_all.Goals.{then-is_active_at, else-is_active_at}
use Rattle.share_ledger.proofs.activity.wake_all.Goals as goal

pub loop-place-preserved : goal.loop-place-preserved
loop-place-preserved c =
    let backs = backs_of c.args.tables.now in
    let funds = funds_of c.args.tables.now in
    let here = activity-here c.args.tables.now c.loop-place.place c.is_active_at.result c.is_active_at.ensures in
    elim c.if-is_active_at.branch [
      | then-is_active_at w ↦ record {
        counted = λ p lt. ap (λ (ws : List ℕ). numbers_of ws p) w.weights-is ∙ w.wake.ensures.counted p lt
            ∙ ap (λ (flags : List Bool). weight_from backs (flags_of c.args.awake.now) p + weight_from funds
            (flags_of flags) p)
            (sym w.active-is);
        woken = λ k. ap (λ (flags : List Bool). flags_of flags k) w.active-is
            ∙ before-wakes (activity_of c.args.tables.now) (flags_of c.loop-place.active)
            (flags_of w.wake.new.active) c.loop-place.place c.loop-place.invariant.woken (here ∙ w.if-is_active_at.true)
            w.wake.ensures.turned k;
      }
      | else-is_active_at w ↦ record {
        counted = λ p lt. ap (λ (ws : List ℕ). numbers_of ws p) w.weights-is ∙ c.loop-place.invariant.counted p lt
            ∙ ap (λ (flags : List Bool). weight_from backs (flags_of c.args.awake.now) p + weight_from funds
            (flags_of flags) p)
            (sym w.active-is);
        woken = λ k. ap (λ (flags : List Bool). flags_of flags k) w.active-is
            ∙ before-idle (activity_of c.args.tables.now) (flags_of c.loop-place.active) c.loop-place.place
            c.loop-place.invariant.woken (here ∙ w.if-is_active_at.false) k;
      }
    ]
