use Rattle.share_reload.proofs.RosterLemmas.{names_numbers}
use Rattle.share_reload.proofs.roster_laws.names_keep_their_numbers.Goals as goal

pub returns : goal.returns
returns c = names_numbers
