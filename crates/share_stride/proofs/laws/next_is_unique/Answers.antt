use Rattle.share_model.proofs.lemmas.stride.NextFlowLemmas.{IsNext-unique}
use Rattle.share_stride.proofs.laws.next_is_unique.Goals as goal

pub returns : goal.returns
returns c = IsNext-unique
