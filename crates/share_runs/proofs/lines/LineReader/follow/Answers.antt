use Rattle.std.proofs.Common.{rules}
use Rattle.share_runs.proofs.LineLemmas.{line_goes_on}
use Rattle.share_runs.proofs.lines.LineReader.follow.Goals as goal

pub returns-else-byte-eq10-clause-line : goal.returns-else-byte-eq10-clause-line
returns-else-byte-eq10-clause-line g c text is =
    rw c.begin_line.ensures.goes
    (line_goes_on c.args.byte (search rules) c.keep.ensures (c.begin_line.ensures.line text is))
