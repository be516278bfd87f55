use Rattle.share_text.specs.Digits.{DecodesUpTo}
use Rattle.share_text.proofs.payload.decode_rest.Given as goal

abbrev pub invariant-loop-place : goal.invariant-loop-place
invariant-loop-place l = DecodesUpTo l.word l.bytes l.place l.greatest
