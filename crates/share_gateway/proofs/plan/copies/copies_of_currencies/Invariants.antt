use Rattle.std.proofs.Common.{◌≡◌, take}
use Rattle.share_gateway.proofs.plan.copies.copies_of_currencies.Given as goal

abbrev pub invariant-loop-index : goal.invariant-loop-index
invariant-loop-index l = l.copies.items ≡ take l.index l.currencies
