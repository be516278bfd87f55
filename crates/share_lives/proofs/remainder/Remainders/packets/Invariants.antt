use Rattle.std.proofs.Common.{◌≡◌, min, take, sum_by}
use Rattle.share_lives.specs.declared.remainder.Remainder.{Remainder}
use Rattle.share_lives.proofs.remainder.Remainders.packets.Given as goal

abbrev pub invariant-loop-remainder : goal.invariant-loop-remainder
invariant-loop-remainder l =
    l.packets
    ≡ min 18446744073709551615
    (sum_by (λ (r : Remainder). r.packets) (take l.remainder-index l.remainder-items))
