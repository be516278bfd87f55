use Rattle.std.proofs.Common.{rules}
use Rattle.share_asked.proofs.StrictLemmas.{ran_strictly}
use Rattle.share_asked.proofs.scripts.run_and_tell.Goals as goal

pub returns : goal.returns
returns g c =
    ran_strictly _ _ _ _ _ _ c.run_to_refusal.new.input _ c.run_to_refusal.new.output _ (search rules) (search rules)
    c.run_to_refusal.ensures
