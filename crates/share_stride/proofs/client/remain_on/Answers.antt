use Rattle.std.proofs.Common.{◌≡◌, ◌*◌, ◌^◌, ◌∙◌, sym, ap, subst, rules, ℤ, to_z, of_z}
use Rattle.std.proofs.lemmas.Int.{to_z-of_z}
use mir.Syntax.{w128}
use Rattle.share_model.specs.stride.Moves.{remain_on}
use Rattle.share_stride.specs.Fits.{IsWithin}
use Rattle.share_stride.proofs.DivisionLemmas.{quotient_is, remain_on-same, remain_on-within}
use Rattle.share_stride.proofs.client.remain_on.Goals as goal
use Rattle.share_stride.proofs.client.remain_on.Goals.{After-floor_quotient}

value : (c : After-floor_quotient)
    → to_z w128 (of_z w128 c.floor_quotient.result) ≡ remain_on c.args.new_stride c.args.old_stride c.args.remain
value c =
    quotient_is c.args.new_stride c.args.old_stride c.args.remain _ _ c.requires.new c.requires.old c.requires.remain
    c.ranges.remain (search rules) (search rules) c.from-else-old_stride-new_stride.ensures c.floor_quotient.ensures
    c.if-old_stride-eq0.false

pub returns-then-old_stride-new_stride-clause-value : goal.returns-then-old_stride-new_stride-clause-value
returns-then-old_stride-new_stride-clause-value c =
    to_z-of_z w128 c.args.remain c.ranges.remain
    ∙ sym (ap (λ stride. remain_on stride c.args.old_stride c.args.remain) (sym c.if-old_stride-new_stride.true)
    ∙ remain_on-same c.args.old_stride c.args.remain c.if-old_stride-eq0.false)

pub returns-else-old_stride-new_stride-clause-near : goal.returns-else-old_stride-new_stride-clause-near
returns-else-old_stride-new_stride-clause-near c =
    subst (λ (z : ℤ). IsWithin z (c.args.new_stride * 2 ^ 41)) (sym (value c))
    (remain_on-within c.args.new_stride c.args.old_stride c.args.remain _ (search rules) c.requires.remain)

pub returns-else-old_stride-new_stride-clause-value : goal.returns-else-old_stride-new_stride-clause-value
returns-else-old_stride-new_stride-clause-value c = value c
