use Rattle.share_downlink.specs.Datagrams.{no_datagram}
use Rattle.share_downlink.proofs.DatagramLemmas.{takes_more, takes_same}
use Rattle.share_downlink.proofs.datagrams.Datagrams.take.Goals.{in-Ok-Packet, in-Ok-Again}
use Rattle.share_downlink.proofs.datagrams.Datagrams.take.Goals as goal

pub returns-then-not-self : goal.returns-then-not-self
returns-then-not-self g c = no_datagram

pub datagrams-init : goal.datagrams-init
datagrams-init g c = no_datagram

pub datagrams-preserved : goal.datagrams-preserved
datagrams-preserved g c =
    elim c.match-receive-2.branch [
      | in-Ok-Packet w ↦ takes_same g.D.Deliver.delivers _ _ _ _ _ _
          (takes_more g.D.Deliver.delivers _ _ _ _ c.datagrams.invariant _ _ w.give.ensures) w.taker-is w.self-is
      | in-Ok-Again w ↦ takes_same g.D.Deliver.delivers _ _ _ _ _ _ c.datagrams.invariant w.taker-is w.self-is
    ]
