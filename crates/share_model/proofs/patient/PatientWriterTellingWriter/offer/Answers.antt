use Rattle.share_model.specs.io.Patient.{no_repeats, one_repeat}
use Rattle.share_model.proofs.patient.PatientWriterTellingWriter.offer.Goals as goal

pub loop-again-init : goal.loop-again-init
loop-again-init g c = no_repeats

pub loop-again-preserved : goal.loop-again-preserved
loop-again-preserved g c = one_repeat _ _ _ c.loop-again.invariant c.in-Interrupted.ensures
