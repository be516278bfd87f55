use Rattle.share_model.specs.io.Patient.{Repeats}
use Rattle.share_model.proofs.patient.PatientWriterTellingWriter.offer.Given as goal

abbrev pub invariant-loop-again : goal.invariant-loop-again
invariant-loop-again g l = Repeats g.W.TellingWriter.answers l.piece l.initial.self.0 l.again l.self.0
