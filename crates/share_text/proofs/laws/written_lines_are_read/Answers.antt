use Rattle.share_text.proofs.SpellingLemmas.{written-apart, read-written, refused-written}
use Rattle.share_text.proofs.laws.written_lines_are_read.Goals as goal

pub returns-clause-apart : goal.returns-clause-apart
returns-clause-apart c = written-apart

pub returns-clause-read : goal.returns-clause-read
returns-clause-read c = read-written

pub returns-clause-refused : goal.returns-clause-refused
returns-clause-refused c = refused-written
