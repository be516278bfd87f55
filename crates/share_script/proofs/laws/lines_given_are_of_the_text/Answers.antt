use Rattle.share_script.proofs.IncomingLemmas.{took_lines}
use Rattle.share_script.proofs.laws.lines_given_are_of_the_text.Goals as goal

pub returns : goal.returns
returns c = took_lines
