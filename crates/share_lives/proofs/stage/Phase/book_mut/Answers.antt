use Rattle.std.proofs.Common.{refl}
use Rattle.share_lives.proofs.stage.Phase.book_mut.Goals as goal

pub returns-in-Open : goal.returns-in-Open
returns-in-Open c = rw c.in-Open.is (refl, record { lent = tt; value = refl })
