use Rattle.std.proofs.Common.{◌≡◌}
use Rattle.share_downlink.proofs.downlink.Downlink.note.Given as goal

abbrev pub invariant-loop-index : goal.invariant-loop-index
invariant-loop-index l = l.self-inside.counts ≡ l.fn.self
