use Rattle.share_journal.proofs.laws.shares_of_recorders.Goals as goal

pub returns-clause-calls : goal.returns-clause-calls
returns-clause-calls g c = rw (← c.engine-engine.ensures.link) c.shares_of_calls.ensures

pub returns-clause-within : goal.returns-clause-within
returns-clause-within g c = rw (← c.engine-engine.ensures.link) c.tickets_are_shares.ensures.within

pub returns-clause-uncapped : goal.returns-clause-uncapped
returns-clause-uncapped g c = rw (← c.engine-engine.ensures.link) c.tickets_are_shares.ensures.uncapped
