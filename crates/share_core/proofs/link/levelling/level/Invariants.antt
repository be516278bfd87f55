use Rattle.std.proofs.Common.{◌≤◌, ◌-◌, length}
use Rattle.share_model.specs.link.Live.{tickets_of_all}
use Rattle.share_core.proofs.LevellingLemmas.{AreDoneChanged}
use Rattle.share_core.proofs.link.levelling.level.Given as goal

abbrev pub invariant-loop-changed : goal.invariant-loop-changed
invariant-loop-changed l = record {
  inside : l.place ≤ length l.ledger.flows;
  done : AreDoneChanged l.initial.queue l.queue (tickets_of_all l.ledger) l.levelled_with l.place;
}

abbrev pub decreases-loop-changed : goal.decreases-loop-changed
decreases-loop-changed l = length l.ledger.flows - l.place
