use Rattle.std.proofs.Common.{◌≡◌, take}
use Rattle.share_web.specs.Heads.{taken}
use Rattle.share_web.proofs.head.Head.take.Given as goal

abbrev pub invariant-bytes : goal.invariant-bytes
invariant-bytes l = l.self ≡ taken l.initial.self (take l.index l.piece)
