use Rattle.std.proofs.Common.{◌≡◌}
use Rattle.share_downlink.proofs.downlink.Downlink.end_next.Given as goal

abbrev pub invariant-connections : goal.invariant-connections
invariant-connections l = l.self-inside.counts ≡ l.fn.self
