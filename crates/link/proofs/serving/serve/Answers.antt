use Rattle.link.proofs.EndLemmas.{has_served}
use Rattle.link.proofs.serving.serve.Goals as goal

pub returns : goal.returns
returns g c =
    has_served _ _ _ _ _ c.serve_on-served.new.output _ _ c.result_of_run.ensures c.serve_on-served.ensures.served
