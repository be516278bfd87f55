use Rattle.std.proofs.Common.{arith, length-take}
use Rattle.share_transit.proofs.transit.Transit.give.Goals as goal

pub push-requires : goal.push-requires
push-requires c =
    let size = length-take c.min-count.result c.args.text.now in
    omega (arith, size, c.room.ensures.room, c.room.ensures.fits, c.min.ensures, c.min-count.ensures)
