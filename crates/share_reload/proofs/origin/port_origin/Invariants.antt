use Rattle.share_reload.proofs.OriginLemmas.{NoneTo}
use Rattle.share_reload.proofs.origin.port_origin.Given as goal

abbrev pub invariant-loop-index : goal.invariant-loop-index
invariant-loop-index l = NoneTo l.old l.port l.index
