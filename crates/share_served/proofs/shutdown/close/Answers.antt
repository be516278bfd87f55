use Rattle.share_served.proofs.ShutdownLemmas.{closing_settled, closing_unsettled}
use Rattle.share_served.proofs.shutdown.close.Goals as goal

pub returns-in-Ok : goal.returns-in-Ok
returns-in-Ok g c =
    closing_settled _ _ _ _ _ _ _ _ _ _ _ _ _ _ _ c.in-Ok.ensures.ok c.in-Ok.ensures.accounts
    c.finish-found.ensures.faults c.finish-found.ensures.audit c.finish-found.ensures.output c.recorder.ensures.version
    c.recorder.ensures.run

pub returns-in-Err : goal.returns-in-Err
returns-in-Err g c =
    closing_unsettled _ _ _ _ _ _ _ _ _ _ _ _ _ c.in-Err.ensures.back.0 c.in-Err.ensures.back.3
    c.finish_unsettled-found.ensures.faults c.finish_unsettled-found.ensures.audit
    c.finish_unsettled-found.ensures.output c.recorder.ensures.version c.recorder.ensures.run
