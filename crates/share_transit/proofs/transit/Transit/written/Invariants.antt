use Rattle.std.proofs.Common.{◌≡◌, length}
use Rattle.share_transit.specs.Transit.{settled, text_written}
use Rattle.share_transit.proofs.transit.Transit.written.Given as goal

abbrev pub invariant-loop : goal.invariant-loop
invariant-loop l = settled l.self ≡ text_written l.fn.total l.fn.self

abbrev pub decreases-loop : goal.decreases-loop
decreases-loop l = length l.self.due
