use Rattle.share_served.proofs.shutdown.finish_unsettled.Goals as goal

pub returns-clause-output : goal.returns-clause-output
returns-clause-output g c = rw (← c.recorder.ensures.recorder) c.finish-found.ensures.output
