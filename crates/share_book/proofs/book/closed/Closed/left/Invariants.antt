use Rattle.std.proofs.Common.{◌≡◌, ◌≤◌, ◌*◌, take}
use Rattle.std.specs.Prelude.{sum_by}
use Rattle.share_model.specs.link.Buffers.{count_in}
use Rattle.share_gateway.specs.Plan.{TenantView}
use Rattle.share_book.proofs.book.closed.Closed.left.Given as goal

abbrev pub invariant-loop-index : goal.invariant-loop-index
invariant-loop-index l =
    (l.left ≡ sum_by (λ (t : TenantView). count_in l.self.buffers t.flow) (take l.index l.tenants))
    × (l.left ≤ l.index * 4294967296)
