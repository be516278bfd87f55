use Rattle.share_journal.proofs.ArrivalLemmas.{arrivals_numbered, arrivals-arrival, arrivals-command, arrivals-turn}
use Rattle.share_journal.proofs.laws.arrivals_are_numbered.Goals as goal

pub returns-clause-numbers : goal.returns-clause-numbers
returns-clause-numbers c = arrivals_numbered

pub returns-clause-arrival : goal.returns-clause-arrival
returns-clause-arrival c = arrivals-arrival

pub returns-clause-command : goal.returns-clause-command
returns-clause-command c = arrivals-command

pub returns-clause-turn : goal.returns-clause-turn
returns-clause-turn c = arrivals-turn
