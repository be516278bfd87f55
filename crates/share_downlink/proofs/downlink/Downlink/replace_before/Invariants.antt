use Rattle.std.proofs.Common.{◌≡◌}
use Rattle.share_downlink.proofs.downlink.Downlink.replace_before.Given as goal

abbrev pub invariant-loop-older : goal.invariant-loop-older
invariant-loop-older l = l.self-inside.counts ≡ l.fn.self
