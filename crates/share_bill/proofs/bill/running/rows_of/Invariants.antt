use Rattle.std.proofs.Common.{◌≡◌, map, take}
use Rattle.share_bill.specs.Bills.{row_with}
use Rattle.share_bill.specs.Sums.{sums_at}
use Rattle.share_bill.specs.declared.bill.running.TenantFlow.{TenantFlow}
use Rattle.share_bill.proofs.bill.running.rows_of.Given as goal

abbrev pub invariant-loop-tenant : goal.invariant-loop-tenant
invariant-loop-tenant l =
    l.rows.items ≡ map (λ (t : TenantFlow). row_with t (sums_at l.sent t.flow)) (take l.tenant-index l.tenants)
