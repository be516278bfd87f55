use Rattle.share_report.proofs.WidthLemmas.{length-total_line, length-flow_line}
use Rattle.share_report.proofs.laws.lines_fill_their_columns.Goals as goal

pub returns-clause-totals : goal.returns-clause-totals
returns-clause-totals c = length-total_line

pub returns-clause-flows : goal.returns-clause-flows
returns-clause-flows c = length-flow_line
