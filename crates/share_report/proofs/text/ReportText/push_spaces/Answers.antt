use Rattle.std.proofs.Common.{◌∙◌, ◌++◌, ap}
use Rattle.std.proofs.lemmas.List.{take-replicate}
use Rattle.share_report.proofs.text.ReportText.push_spaces.Goals as goal

pub returns-clause-bytes : goal.returns-clause-bytes
returns-clause-bytes c =
    c.push.ensures.bytes ∙ ap (λ r. c.args.self.now ++ r) (take-replicate c.args.count 26 32 c.requires.few)
