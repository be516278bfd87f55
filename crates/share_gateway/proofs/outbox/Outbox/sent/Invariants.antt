use Rattle.std.proofs.Common.{◌≡◌, length}
use Rattle.share_gateway.specs.Outbox.{send_more, without_whole}
use Rattle.share_gateway.proofs.outbox.Outbox.sent.Given as goal

abbrev pub invariant-loop : goal.invariant-loop
invariant-loop l = without_whole l.self ≡ send_more l.fn.count l.fn.self

abbrev pub decreases-loop : goal.decreases-loop
decreases-loop l = length l.self.frames
