use Rattle.share_downlink.proofs.DatagramLemmas.{takes_one, takes_elsewhere}
use Rattle.share_downlink.proofs.datagrams.Datagrams.give.Goals as goal

pub returns-then-is_none_or : goal.returns-then-is_none_or
returns-then-is_none_or g c =
    rw (← c.self.view_is) (takes_one g.D.Deliver.delivers _ _ _ _ c.args.datagram.now c.give.ensures)

pub returns-else-is_none_or : goal.returns-else-is_none_or
returns-else-is_none_or g c =
    rw (← c.self.view_is) (takes_elsewhere g.D.Deliver.delivers _ _ _ c.drop_one.ensures)
