use Rattle.share_text.proofs.NumberLemmas.{ReadUpTo}
use Rattle.share_text.proofs.words.number_in.Given as goal

abbrev pub invariant-loop-digit : goal.invariant-loop-digit
invariant-loop-digit l = ReadUpTo l.word l.digit-index l.value
