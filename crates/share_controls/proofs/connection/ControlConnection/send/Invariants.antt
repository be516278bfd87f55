use Rattle.std.proofs.Common.{◌≡◌, ℕ, true, drop}
use Rattle.share_controls.proofs.connection.ControlConnection.send.Given as goal

abbrev pub invariant-calls : goal.invariant-calls
invariant-calls l = ((count : ℕ) × (l.self.replies ≡ drop count l.initial.self.replies))
    × (l.self ≡ record l.initial.self {
      replies = l.self.replies;
      writes = l.self.writes;
      is_broken = l.self.is_broken;
    })
    × (l.initial.self.is_broken ≡ true → l.self.is_broken ≡ true)
