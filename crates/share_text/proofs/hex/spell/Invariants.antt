use Rattle.std.proofs.Common.{length}
use Rattle.share_text.proofs.HexLemmas.{SpelledUpTo}
use Rattle.share_text.proofs.hex.spell.Given as goal

abbrev pub invariant-loop-place : goal.invariant-loop-place
invariant-loop-place l = SpelledUpTo l.bytes l.text (length l.initial.text) l.place
