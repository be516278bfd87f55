use Rattle.share_uplink.specs.Passing.{WireTakes}
use Rattle.share_uplink.proofs.passing.send.Given as goal

abbrev pub invariant-calls : goal.invariant-calls
invariant-calls l = WireTakes l.initial.transit l.transit
