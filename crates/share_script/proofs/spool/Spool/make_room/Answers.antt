use Rattle.share_model.specs.io.Calls.{no_offers}
use Rattle.share_script.proofs.spool.Spool.make_room.Goals as goal

pub returns-then-len-le-SPOOL-clause-offers : goal.returns-then-len-le-SPOOL-clause-offers
returns-then-len-le-SPOOL-clause-offers g c = no_offers
