use Rattle.std.proofs.Common.{◌≡◌, take}
use Rattle.std.specs.Prelude.{count_by}
use Rattle.share_locked.specs.Receipts.{is_arrival}
use Rattle.share_locked.proofs.locked.settling.arrivals_in.Given as goal

abbrev pub invariant-loop-entry : goal.invariant-loop-entry
invariant-loop-entry l = l.count ≡ count_by is_arrival (take l.entry-index l.entries)
