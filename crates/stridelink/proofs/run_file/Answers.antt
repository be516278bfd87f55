use Rattle.stridelink.proofs.EndLemmas.{of_some_script}
use Rattle.stridelink.proofs.run_file.Goals as goal

pub returns : goal.returns
returns c = of_some_script _ c.in-Ok.file _ c.run_on_standard.ensures
