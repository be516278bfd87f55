use Rattle.share_runs.proofs.LineLemmas.{first_line}
use Rattle.share_runs.proofs.lines.LineReader.new.Goals as goal

pub returns-clause-line : goal.returns-clause-line
returns-clause-line g c = first_line c.new.ensures
