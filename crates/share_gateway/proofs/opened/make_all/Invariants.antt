use Rattle.std.proofs.Common.{◌≡◌, length}
use Rattle.share_gateway.proofs.OpenedLemmas.{GoesOn}
use Rattle.share_gateway.proofs.opened.make_all.Given as goal

abbrev pub invariant-loop-command : goal.invariant-loop-command
invariant-loop-command g l =
    (l.engine.life ≡ l.fn.engine.life)
    × (l.engine.rates ≡ l.fn.engine.rates)
    × GoesOn l.fn.engine.rates l.plan l.fn.engine.life l.engine.live l.commands

abbrev pub decreases-loop-command : goal.decreases-loop-command
decreases-loop-command g l = length l.commands
