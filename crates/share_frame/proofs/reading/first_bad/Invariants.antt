use Rattle.share_frame.proofs.FieldReadingLemmas.{AreGood}
use Rattle.share_frame.proofs.reading.first_bad.Given as goal

abbrev pub invariant-loop-place : goal.invariant-loop-place
invariant-loop-place l = AreGood l.version l.place-index l.bytes
