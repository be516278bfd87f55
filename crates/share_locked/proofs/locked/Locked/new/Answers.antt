use Rattle.std.proofs.Common.{arith}
use Rattle.share_locked.proofs.CallLemmas.{arrivals-none}
use Rattle.share_locked.proofs.locked.Locked.new.Goals as goal

pub invariant_of-result : goal.invariant_of-result
invariant_of-result g c =
    (c.requires.link, arrivals-none _ _ c.requires.empty c.requires.nothing, omega arith, c.requires.version)
