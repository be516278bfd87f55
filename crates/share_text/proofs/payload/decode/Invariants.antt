use Rattle.std.proofs.Common.{◌*◌}
use Rattle.share_text.specs.Digits.{DecodesUpTo}
use Rattle.share_text.proofs.payload.decode.Given as goal

abbrev pub invariant-loop-block : goal.invariant-loop-block
invariant-loop-block l = DecodesUpTo l.word l.bytes (16 * l.block) l.greatest
