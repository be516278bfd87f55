use Rattle.std.proofs.lemmas.List.{drop-replicate}
use Rattle.share_base.proofs.parcel.ZeroFrame.new.Goals as goal

pub invariant_of-result : goal.invariant_of-result
invariant_of-result c = drop-replicate 17 9017 0
