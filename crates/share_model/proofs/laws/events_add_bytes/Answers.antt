use Rattle.share_model.proofs.lemmas.run.EventLemmas.{run-bytes}
use Rattle.share_model.proofs.laws.events_add_bytes.Goals as goal

pub returns : goal.returns
returns c = run-bytes
