use Rattle.stridelink.proofs.EndLemmas.{of_some_script}
use Rattle.stridelink.proofs.run_input.Goals as goal

pub returns : goal.returns
returns c = of_some_script _ c.reader.result _ c.run_on_standard.ensures
