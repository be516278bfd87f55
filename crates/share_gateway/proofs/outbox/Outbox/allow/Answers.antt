use Rattle.std.proofs.Common.{arith}
use Rattle.std.proofs.lemmas.Bool.Decides.{nat_tests}
use Rattle.share_gateway.proofs.OutboxLemmas.{allow_is}
use Rattle.share_gateway.proofs.outbox.Outbox.allow.Goals as goal

pub returns : goal.returns
returns c =
    rw (← c.self.view_is)
    (allow_is c.self.inside.lengths.items c.self.inside.bytes.bytes c.self.inside.out c.self.inside.allowed
    c.self.invariant.2
    c.args.count c.min.result c.self.invariant.6 (grind (arith, nat_tests, c.min.ensures, c.len.ensures)))
