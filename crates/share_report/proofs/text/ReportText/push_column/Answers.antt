use Rattle.share_report.specs.Columns.{spaces, at_left, at_right}
use Rattle.share_report.proofs.LineLemmas.{added}
use Rattle.share_report.proofs.text.ReportText.push_column.Goals as goal

pub returns-in-Left-clause-bytes : goal.returns-in-Left-clause-bytes
unfolding at_left at_right
returns-in-Left-clause-bytes c =
    rw (c.in-Left.is, ← c.saturating_sub.ensures)
    (added c.args.self.now (spaces c.saturating_sub.result) c.args.text.now
    c.push_spaces.ensures.bytes c.push.ensures.bytes)

pub returns-in-Right-clause-bytes : goal.returns-in-Right-clause-bytes
unfolding at_left at_right
returns-in-Right-clause-bytes c =
    rw (c.in-Right.is, ← c.saturating_sub-in-Right.ensures)
    (added c.args.self.now c.args.text.now (spaces c.saturating_sub-in-Right.result)
    c.push-in-Right.ensures.bytes c.push_spaces-in-Right.ensures.bytes)
