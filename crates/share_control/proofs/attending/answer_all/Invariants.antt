use Rattle.std.proofs.Common.{◌≡◌}
use Rattle.share_control.specs.Attends.{WritesAnswers}
use Rattle.share_control.proofs.attending.answer_all.Given as goal

abbrev pub invariant-loop : goal.invariant-loop
invariant-loop g l = record {
  all : WritesAnswers g.row.W.Denot g.O.TellingWriter.told g.O.TellingWriter.answers l.initial.input.ahead
      l.initial.clerk
      l.initial.output l.input.ahead l.clerk l.output;
  reader : l.input.reader ≡ l.initial.input.reader;
}
