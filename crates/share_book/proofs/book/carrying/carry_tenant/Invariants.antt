use Rattle.std.proofs.Common.{◌≡◌}
use Rattle.share_model.specs.link.Buffers.{count_in}
use Rattle.share_gateway.specs.PlanChanges.{tenant_flow}
use Rattle.share_book.proofs.CarryLemmas.{IsPartCarried}
use Rattle.share_book.proofs.book.carrying.carry_tenant.Given as goal

abbrev pub invariant-packets : goal.invariant-packets
invariant-packets g l =
    IsPartCarried l.initial.audited l.initial.closed l.name l.audited l.closed
    × (l.flow ≡ tenant_flow l.closed.plan l.name)

abbrev pub decreases-packets : goal.decreases-packets
decreases-packets g l = count_in l.closed.buffers l.flow
