use Rattle.std.proofs.Common.{◌≡◌, ◌&&◌, drop}
use Rattle.std.specs.Prelude.{nat_le}
use Rattle.std.specs.List.{list_all}
use Rattle.share_gateway.specs.Plan.{are_flow_numbers, ascends, flows_of}
use Rattle.share_gateway.proofs.plan.are_flow_numbers.Given as goal

abbrev pub invariant-loop-index : goal.invariant-loop-index
invariant-loop-index l =
    are_flow_numbers (flows_of l.tenants)
    ≡ (ascends l.last (flows_of (drop l.index l.tenants)) && list_all (λ n. nat_le n 1024)
    (flows_of (drop l.index l.tenants)))
