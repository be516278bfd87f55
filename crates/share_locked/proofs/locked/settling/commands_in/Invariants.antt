use Rattle.std.proofs.Common.{◌≡◌, take}
use Rattle.std.specs.Prelude.{count_by}
use Rattle.share_locked.specs.Receipts.{is_command}
use Rattle.share_locked.proofs.locked.settling.commands_in.Given as goal

abbrev pub invariant-loop-entry : goal.invariant-loop-entry
invariant-loop-entry l = l.count ≡ count_by is_command (take l.entry-index l.entries)
