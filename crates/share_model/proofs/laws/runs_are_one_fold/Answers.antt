use Rattle.std.specs.Prelude.{Some}
use Rattle.std.proofs.Common.{refl}
use Rattle.share_model.proofs.lemmas.run.PromiseLemmas.{promise}
use Rattle.share_model.proofs.laws.runs_are_one_fold.Goals as goal

pub returns : goal.returns
returns c = λ version life rates events told few range may bytes counts.
    promise version life rates events _ _ (Some told) few range may refl refl bytes counts
