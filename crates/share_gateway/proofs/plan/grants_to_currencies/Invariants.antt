use Rattle.std.proofs.Common.{◌≡◌, length, min, take, sum_by}
use Rattle.share_gateway.specs.Plan.{CurrencyView}
use Rattle.share_gateway.proofs.plan.grants_to_currencies.Given as goal

abbrev pub invariant-loop-currency : goal.invariant-loop-currency
invariant-loop-currency l =
    l.total ≡ min 18446744073709551615
    (sum_by (λ (c : CurrencyView). length c.grants) (take l.currency-index l.currencies))
