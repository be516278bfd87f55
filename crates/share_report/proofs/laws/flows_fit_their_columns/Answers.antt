use Rattle.share_report.proofs.FitLemmas.{flow_fits}
use Rattle.share_report.proofs.laws.flows_fit_their_columns.Goals as goal

pub returns : goal.returns
returns c = flow_fits
