use Rattle.share_model.proofs.lemmas.run.TicketLemmas.{tickets-within, tickets-plain}
use Rattle.share_core.proofs.laws.tickets_are_shares.Goals as goal

pub returns-clause-within : goal.returns-clause-within
returns-clause-within g c = tickets-within c.args.engine.now c.events.ensures.sound

pub returns-clause-uncapped : goal.returns-clause-uncapped
returns-clause-uncapped g c = tickets-plain c.args.engine.now c.events.ensures.sound
