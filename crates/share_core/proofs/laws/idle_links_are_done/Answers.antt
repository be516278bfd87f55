use Rattle.share_core.proofs.IdleLinkLemmas.{idle_is_done}
use Rattle.share_core.proofs.NextWriteLemmas.{sending-none}
use Rattle.share_core.proofs.laws.idle_links_are_done.Goals as goal

pub returns-clause-done : goal.returns-clause-done
returns-clause-done g c = λ none. idle_is_done c.events.ensures.sound none

pub returns-clause-idle : goal.returns-clause-idle
returns-clause-idle g c = λ unparted none. sending-none _ unparted none
