use Rattle.std.proofs.Common.{length, ap, ◌∙◌, arith}
use Rattle.share_catalog.proofs.TariffLemmas.{pushed_first, pushed_more}
use Rattle.share_catalog.proofs.tariffs.push_tariffs.Goals as goal
use Rattle.share_catalog.proofs.tariffs.push_tariffs.Goals.{then-place-gt0, else-place-gt0}

pub loop-place-preserved : goal.loop-place-preserved
loop-place-preserved c =
    elim c.if-place-gt0.branch [
      | then-place-gt0 w ↦ (
        pushed_more _ _ _ _ c.loop-place.place c.as_slice-tariffs.result.now _ c.loop-place.invariant.0
            (w.text-is ∙ w.push.ensures.bytes) c.push_tariff.ensures.bytes w.if-place-gt0.true c.loop-place-test.true,
        omega (arith, ap length w.text-is, w.push.ensures.long, c.push_tariff.ensures.few, c.loop-place.invariant.1),
        c.loop-place.invariant.2,
      )
      | else-place-gt0 w ↦ (
        pushed_first _ _ _ _ c.loop-place.place c.as_slice-tariffs.result.now _ c.loop-place.invariant.0
            w.text-is c.push_tariff.ensures.bytes w.if-place-gt0.false c.loop-place-test.true,
        omega (arith, ap length w.text-is, c.push_tariff.ensures.few, c.loop-place.invariant.1),
        c.loop-place.invariant.2,
      )
    ]
