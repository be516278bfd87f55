use Rattle.std.proofs.Common.{vec_capacity}
use Rattle.share_reload.proofs.RosterLemmas.{AddsTo}
use Rattle.share_reload.proofs.roster.Roster.add.Given as goal

abbrev pub invariant-loop-tenant : goal.invariant-loop-tenant
invariant-loop-tenant l =
    AddsTo l.initial.self-inside.known.items l.self-inside.known.items l.tenants l.tenant-index
    (vec_capacity l.self-inside.known)
