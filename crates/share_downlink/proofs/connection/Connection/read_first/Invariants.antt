use Rattle.std.proofs.Common.{◌≡◌, ◌<◌, true}
use Rattle.share_downlink.specs.Connection.{FirstNone}
use Rattle.share_downlink.proofs.connection.Connection.read_first.Given as goal

abbrev pub invariant-pieces : goal.invariant-pieces
invariant-pieces g l = record {
  none : FirstNone l.fn.taker l.fn.counts l.fn.self.incoming l.taker l.counts l.self.incoming;
  over : l.self.over ≡ l.fn.self.over;
  ready : 0 < l.counter → l.self.is_readable ≡ true;
}
