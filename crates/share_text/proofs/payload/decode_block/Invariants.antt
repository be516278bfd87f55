use Rattle.std.proofs.Common.{◌+◌}
use Rattle.share_text.specs.Digits.{DecodesUpTo}
use Rattle.share_text.proofs.payload.decode_block.Given as goal

abbrev pub invariant-loop-place : goal.invariant-loop-place
invariant-loop-place l = DecodesUpTo l.word l.bytes (l.at + l.place) l.greatest
