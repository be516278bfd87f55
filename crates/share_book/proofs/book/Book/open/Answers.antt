use Rattle.share_book.proofs.OpenLemmas.{open-run, open-whole}
use Rattle.share_book.proofs.book.Book.open.Goals as goal

pub over-audited-requires-clause-run : goal.over-audited-requires-clause-run
over-audited-requires-clause-run g c = open-run _ _ _ _ c.in_ok-engine.ensures.ok _ _ c.in-Ok.ensures.0

pub over-audited-requires-clause-whole : goal.over-audited-requires-clause-whole
over-audited-requires-clause-whole g c = open-whole _ _ _ _ c.in_ok-engine.ensures.ok
