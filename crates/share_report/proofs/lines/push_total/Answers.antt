use Rattle.std.proofs.Common.{codes}
use Rattle.share_report.specs.Columns.{column_text}
use Rattle.share_report.specs.declared.text.Column.TheVariants.{Left}
use Rattle.share_model.specs.text.Report.{total_line}
use Rattle.share_report.proofs.LineLemmas.{added}
use Rattle.share_report.proofs.lines.push_total.Goals as goal

pub returns-clause-bytes : goal.returns-clause-bytes
unfolding total_line
returns-clause-bytes g c =
    added c.args.text.now (codes "\n") _ c.push.ensures.bytes
    (added c.args.text.now _ (column_text (Left 8) c.args.key.now) c.push_number.ensures.bytes
    c.push_column.ensures.bytes)
