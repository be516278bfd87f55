use Rattle.share_uplink.specs.Passing.{nothing}
use Rattle.share_uplink.proofs.PassingLemmas.{takes_more}
use Rattle.share_uplink.proofs.passing.send.Goals as goal

pub returns-then-not-is_writable-clause-wire : goal.returns-then-not-is_writable-clause-wire
returns-then-not-is_writable-clause-wire c = nothing _

pub calls-init : goal.calls-init
calls-init c = nothing _

pub calls-preserved : goal.calls-preserved
calls-preserved c = takes_more _ _ _ c.calls.invariant c.send_piece.ensures

pub returns-in-Ok-Waits-clause-wire : goal.returns-in-Ok-Waits-clause-wire
returns-in-Ok-Waits-clause-wire c = takes_more _ _ _ c.calls.invariant c.send_piece.ensures

pub returns-in-Ok-Over-clause-wire : goal.returns-in-Ok-Over-clause-wire
returns-in-Ok-Over-clause-wire c = takes_more _ _ _ c.calls.invariant c.send_piece.ensures

pub returns-in-Err-clause-wire : goal.returns-in-Err-clause-wire
returns-in-Err-clause-wire c = takes_more _ _ _ c.calls.invariant c.send_piece.ensures
