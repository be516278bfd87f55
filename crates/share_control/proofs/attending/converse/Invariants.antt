use Rattle.share_control.specs.Attends.{Attends}
use Rattle.share_control.proofs.attending.converse.Given as goal

abbrev pub invariant-loop : goal.invariant-loop
invariant-loop g l = Attends g.row.W.Denot g.I.TellingReader.left g.I.TellingReader.gives l.initial.input
    l.initial.clerk l.input
    l.clerk
