use Rattle.std.proofs.Common.{◌≡◌, ◌+◌, true}
use Rattle.share_core.specs.Levels.{AreSameFrom}
use Rattle.share_core.proofs.link.levelling.are_same.Given as goal

abbrev pub invariant-loop-i : goal.invariant-loop-i
invariant-loop-i l = l.same ≡ true → AreSameFrom l.levelled_with l.tickets l.place (l.place + l.i)
