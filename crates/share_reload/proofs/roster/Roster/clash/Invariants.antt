use Rattle.share_reload.proofs.RosterLemmas.{IsClearTo}
use Rattle.share_reload.proofs.roster.Roster.clash.Given as goal

abbrev pub invariant-loop-index : goal.invariant-loop-index
invariant-loop-index l = IsClearTo l.self l.tenants l.index
