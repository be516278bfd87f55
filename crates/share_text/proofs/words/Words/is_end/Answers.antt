use Rattle.share_text.proofs.WordLemmas.{ended_is}
use Rattle.share_text.proofs.words.Words.is_end.Goals as goal

pub returns : goal.returns
returns c = ended_is c.self.inside.rest c.args.self.now c.is_none.result c.is_none.ensures c.self.view_is
