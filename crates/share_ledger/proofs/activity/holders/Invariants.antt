use Rattle.std.proofs.Common.{◌≡◌, length}
use Rattle.share_ledger.proofs.activity.holders.Given as goal

abbrev pub invariant-loop : goal.invariant-loop
invariant-loop l = length l.holders.items ≡ l.counter
