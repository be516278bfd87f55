use Rattle.share_catalog.proofs.TimeLemmas.{two_back}
use Rattle.share_catalog.proofs.time.two_at.Goals as goal

pub returns-clause-value : goal.returns-clause-value
returns-clause-value c =
    two_back c.args.word.now c.args.at c.digit.result c.digit-2.result c.digit.ensures.value c.digit-2.ensures.value
