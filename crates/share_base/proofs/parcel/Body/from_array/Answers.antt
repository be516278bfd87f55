use Rattle.std.proofs.Common.{ap}
use Rattle.std.proofs.lemmas.List.{drop-take}
use Rattle.share_base.specs.Body.{unstamped}
use Rattle.share_base.proofs.parcel.Body.from_array.Goals as goal

pub returns : goal.returns
returns c = rw c.from_buf_and_len.ensures.items (ap unstamped (drop-take 17 c.args.count c.args.bytes))
