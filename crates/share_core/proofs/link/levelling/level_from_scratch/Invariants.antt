use Rattle.share_model.specs.link.Live.{tickets_of_all}
use Rattle.share_core.proofs.LevellingLemmas.{AreDone}
use Rattle.share_core.proofs.link.levelling.level_from_scratch.Given as goal

abbrev pub invariant-loop-place : goal.invariant-loop-place
invariant-loop-place l = AreDone l.initial.queue l.queue (tickets_of_all l.ledger) l.levelled_with l.place
