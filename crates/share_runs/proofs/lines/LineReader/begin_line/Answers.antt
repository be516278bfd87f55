use Rattle.share_runs.proofs.LineLemmas.{next_line}
use Rattle.share_runs.proofs.lines.LineReader.begin_line.Goals as goal

pub returns-then-self-clause-line : goal.returns-then-self-clause-line
returns-then-self-clause-line g c text is = next_line c.if-self.true c.saturating_add-self.ensures c.clear.ensures is
