use Rattle.share_web.proofs.HeadLemmas.{taken-append}
use Rattle.share_web.proofs.laws.pieces_make_no_difference.Goals as goal

pub returns : goal.returns
returns c = taken-append
