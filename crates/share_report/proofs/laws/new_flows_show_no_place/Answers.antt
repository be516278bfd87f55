use Rattle.share_report.proofs.ShownLemmas.{no_place}
use Rattle.share_report.proofs.laws.new_flows_show_no_place.Goals as goal

pub returns : goal.returns
returns c = no_place
