use Rattle.share_text.proofs.LaneLemmas.{even_lanes, odd_lanes}
use Rattle.share_text.proofs.payload.digits_apart.Goals as goal

pub returns-clause-first : goal.returns-clause-first
returns-clause-first c = λ k few. even_lanes c.args.word.now c.args.at k c.requires few

pub returns-clause-second : goal.returns-clause-second
returns-clause-second c = λ k few. odd_lanes c.args.word.now c.args.at k c.requires few
