use Rattle.std.proofs.Common.{refl, inr}
use Rattle.share_server.proofs.RunLemmas.{served_if, ends_so}
use Rattle.share_server.proofs.serve.serve_on.Goals as goal

pub returns-in-Ok-clause-served : goal.returns-in-Ok-clause-served
returns-in-Ok-clause-served g c = served_if _ c.serve_as.ensures

pub returns-in-Ok-clause-ends : goal.returns-in-Ok-clause-ends
returns-in-Ok-clause-ends g c = ends_so _ _ c.serve_as.ensures

pub returns-in-Err-clause-ends : goal.returns-in-Err-clause-ends
returns-in-Err-clause-ends g c =
    inr (record { fault = c.in-Err.fault; result_is = refl; why = c.in-Err.ensures.refused; unwritten = refl })
