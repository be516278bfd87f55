use Rattle.std.proofs.Common.{ap, ◌∙◌, ◌++◌, ◌∷◌, []}
use Rattle.share_bill.specs.Bills.{row_with}
use Rattle.share_bill.specs.Sums.{sums_at}
use Rattle.share_bill.specs.declared.bill.running.TenantBill.{TenantBill}
use Rattle.share_bill.specs.declared.bill.running.TenantFlow.{TenantFlow}
use Rattle.share_bill.proofs.RowLemmas.{values-more}
use Rattle.share_bill.proofs.bill.running.rows_of.Goals as goal

pub loop-tenant-preserved : goal.loop-tenant-preserved
loop-tenant-preserved c =
    let row : TenantFlow → TenantBill = λ (t : TenantFlow). row_with t (sums_at c.args.sent.now t.flow) in
    values-more row c.args.tenants.now
    c.loop-tenant.tenant-index c.tenant-item.result c.loop-tenant.rows.items _ c.loop-tenant-test.true
    c.loop-tenant.invariant
    (c.in_ok-push.ensures.items
    ∙ ap (λ (r : TenantBill). c.loop-tenant.rows.items ++ r ∷ [])
    (c.row.ensures ∙ ap (row_with c.tenant-item.result) c.of.ensures ∙ ap row c.tenant-item.is))
