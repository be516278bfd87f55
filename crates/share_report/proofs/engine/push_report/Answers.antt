use Rattle.share_model.specs.text.Report.{report_text}
use Rattle.share_report.proofs.engine.push_report.Goals as goal

pub returns : goal.returns
unfolding report_text
returns g c =
    rw (c.push.ensures.bytes, c.push_flows.ensures.bytes, c.push_totals.ensures.bytes, c.totals.ensures, c.requires)
