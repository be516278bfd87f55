use Rattle.share_model.proofs.lemmas.run.EventLemmas.{run-sound}
use Rattle.share_model.proofs.laws.events_keep_sound.Goals as goal

pub returns : goal.returns
returns c = run-sound
