use Rattle.share_catalog.proofs.TimeLemmas.{four_back}
use Rattle.share_catalog.proofs.time.four_at.Goals as goal

pub returns : goal.returns
returns c =
    rw (c.from.ensures, c.from-2.ensures)
    (four_back c.args.word.now c.args.at c.two_at.result c.two_at-2.result c.two_at.ensures.value
    c.two_at-2.ensures.value)
