use Rattle.std.proofs.Common.{◌≡◌}
use Rattle.share_controls.specs.Controls.{Comes}
use Rattle.share_controls.proofs.connection.ControlConnection.advance.Given as goal

abbrev pub invariant-calls : goal.invariant-calls
invariant-calls l = Comes l.initial.self.ahead l.self.ahead
    × (l.self ≡ record l.initial.self {
      line = l.self.line;
      ahead = l.self.ahead;
      reads = l.self.reads;
      has_ended = l.self.has_ended;
    })
