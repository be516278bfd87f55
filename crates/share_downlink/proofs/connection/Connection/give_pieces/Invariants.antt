use Rattle.std.proofs.Common.{◌≡◌, ◌<◌, true}
use Rattle.share_downlink.specs.Given.{Passes}
use Rattle.share_downlink.proofs.connection.Connection.give_pieces.Given as goal

abbrev pub invariant-pieces : goal.invariant-pieces
invariant-pieces g l = record {
  given : Passes g.D.Deliver.delivers l.fn.taker l.fn.counts l.fn.self.incoming l.taker l.counts l.self.incoming;
  over : l.self.over ≡ l.fn.self.over;
  ready : 0 < l.counter → l.self.is_readable ≡ true;
}
