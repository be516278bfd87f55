use Rattle.std.specs.Prelude.{length}
use Rattle.std.proofs.Common.{◌∙◌}
use Rattle.std.proofs.Math.Nat.{zero-add}
use Rattle.share_model.specs.run.Fold.{empty_state}
use Rattle.share_model.proofs.lemmas.run.EventLemmas.{events-after, length-outcomes}
use Rattle.share_model.proofs.laws.events_are_counted.Goals as goal

pub returns-clause-count : goal.returns-clause-count
returns-clause-count c = λ version life rates events may. events-after life rates (empty_state version) events may
    ∙ zero-add (length events)

pub returns-clause-outcome : goal.returns-clause-outcome
returns-clause-outcome c = λ version rates events. length-outcomes rates (empty_state version) events
