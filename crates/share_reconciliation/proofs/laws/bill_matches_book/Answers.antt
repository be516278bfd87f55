use Rattle.share_reconciliation.proofs.BookLemmas.{bill-of}
use Rattle.share_reconciliation.proofs.laws.bill_matches_book.Goals as goal

pub returns : goal.returns
returns g c = (
  c.engine.ensures.run,
  λ first result known bills.
      bill-of g.I.TellingReader.left g.I.TellingReader.gives first c.args.book.now.audited c.engine.ensures.run known
      result bills,
)
