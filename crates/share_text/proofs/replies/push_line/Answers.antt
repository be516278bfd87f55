use Rattle.std.proofs.Common.{◌++◌, [], ◌∷◌, ◌∙◌, ap}
use mathlib.Core.List.{append_assoc}
use Rattle.share_model.specs.text.Texts.{outcome_text, line_text}
use Rattle.share_text.proofs.replies.push_line.Goals as goal

pub returns : goal.returns
unfolding line_text
returns g c =
    c.push_str.ensures.bytes ∙ ap (λ t. t ++ 10 ∷ []) c.push_outcome.ensures.bytes
    ∙ append_assoc (g.T.Text.contents c.args.text.now) (outcome_text c.args.outcome.now) _
