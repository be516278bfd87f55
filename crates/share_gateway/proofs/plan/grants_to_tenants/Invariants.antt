use Rattle.std.proofs.Common.{◌≡◌, length, min, take, sum_by}
use Rattle.share_gateway.specs.Plan.{TenantView}
use Rattle.share_gateway.proofs.plan.grants_to_tenants.Given as goal

abbrev pub invariant-loop-tenant : goal.invariant-loop-tenant
invariant-loop-tenant l =
    l.total ≡ min 18446744073709551615 (sum_by (λ (t : TenantView). length t.grants) (take l.tenant-index l.tenants))
