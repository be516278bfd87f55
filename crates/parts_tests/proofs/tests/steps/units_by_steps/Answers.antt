use Rattle.std.proofs.Common.{◌+◌, ◌∙◌, ap, arith}
use Rattle.parts_tests.proofs.CellLemmas.{one_more, covered-units}
use Rattle.parts_tests.proofs.tests.steps.units_by_steps.Goals as goal

pub loop-covered-preserved : goal.loop-covered-preserved
loop-covered-preserved c =
    let k = c.loop-covered.invariant.0 in
    (k + 1, omega (arith, one_more c.args.cell k), omega (arith, one_more c.args.cell k, c.from.ensures))

pub returns : goal.returns
returns c =
    λ price. ap (λ covered. c.args.overhead + covered) c.loop-covered.invariant.1
    ∙ covered-units c.args.cell c.args.overhead price c.args.count c.loop-covered.invariant.0 (omega arith)
    c.loop-covered.invariant.2 (omega (arith, c.from.ensures))
