use Rattle.share_catalog.proofs.NumberLemmas.{ValueUpTo}
use Rattle.share_catalog.proofs.number.value_of.Given as goal

abbrev pub invariant-loop-digit : goal.invariant-loop-digit
invariant-loop-digit l = ValueUpTo l.word l.digit-index l.value
