use Rattle.share_catalog.proofs.NameLemmas.{one_to_one}
use Rattle.share_catalog.proofs.laws.names_are_one_to_one.Goals as goal

pub returns : goal.returns
returns c = one_to_one
