use Rattle.std.proofs.Common.{take}
use Rattle.std.specs.Prelude.{flat_map}
use Rattle.share_lives.specs.Remainders.{Gains, tenant_remainder}
use Rattle.share_lives.proofs.remainder.Remainders.add_all.Given as goal

abbrev pub invariant-tenants : goal.invariant-tenants
invariant-tenants l =
    Gains l.initial.self (flat_map (tenant_remainder l.closed.buffers) (take l.index l.tenants)) l.self
