use Rattle.share_downlink.specs.Datagrams.{TakesDatagrams}
use Rattle.share_downlink.proofs.datagrams.Datagrams.take.Given as goal

abbrev pub invariant-datagrams : goal.invariant-datagrams
invariant-datagrams g l = TakesDatagrams g.D.Deliver.delivers l.fn.taker l.fn.self l.taker l.self
