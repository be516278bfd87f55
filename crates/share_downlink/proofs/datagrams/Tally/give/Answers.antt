use Rattle.std.proofs.Common.{arith, length-drop}
use Rattle.std.proofs.lemmas.List.{take_all}
use Rattle.share_downlink.proofs.DatagramLemmas.{gives_datagram}
use Rattle.share_downlink.proofs.datagrams.Tally.give.Goals as goal

pub returns-in-Some : goal.returns-in-Some
returns-in-Some g c =
    gives_datagram g.D.Deliver.delivers _ _ c.args.self.now c.count.new.self c.args.datagram.now _ c.in-Some.flow
    c.deliver-is_known.result c.in-Some.ensures.frame
    (take_all _ _ (omega (arith, length-drop 17 c.args.datagram.now))) c.deliver-is_known.ensures c.count.ensures
