use Rattle.share_bill.specs.Bills.{rows_of}
use Rattle.std.specs.Prelude.{None}
use Rattle.share_bill.proofs.OneBillLemmas.{one-run}
use Rattle.share_reconciliation.specs.Reconciled.{billed_kind, whole_text}
use Rattle.share_reconciliation.proofs.BookLemmas.{
  bill-of,
  book-accounts,
  book-amounts,
  book-billed,
  book-replies,
  book-totals,
}
use Rattle.share_reconciliation.proofs.laws.bills_match_books.Goals as goal

pub returns-clause-book : goal.returns-clause-book
returns-clause-book g c a text = book-billed a text

pub returns-clause-bill : goal.returns-clause-bill
returns-clause-bill g c first a text result known bills =
    bill-of g.I.TellingReader.left g.I.TellingReader.gives first a text known result bills

pub returns-clause-replies : goal.returns-clause-replies
returns-clause-replies g c a text kind rows cut bill =
    book-replies a text bill.book.events
    (one-run a.link.rates (whole_text a text) kind (billed_kind a.kind) rows (rows_of a.link.rates text.events) cut None
    bill (book-billed a text))

pub returns-clause-accounts : goal.returns-clause-accounts
returns-clause-accounts g c a text kind rows cut bill =
    book-accounts a text bill.book.events
    (one-run a.link.rates (whole_text a text) kind (billed_kind a.kind) rows (rows_of a.link.rates text.events) cut None
    bill (book-billed a text))

pub returns-clause-totals : goal.returns-clause-totals
returns-clause-totals g c a text kind rows cut bill =
    book-totals a text bill.book.events
    (one-run a.link.rates (whole_text a text) kind (billed_kind a.kind) rows (rows_of a.link.rates text.events) cut None
    bill (book-billed a text))

pub returns-clause-amounts : goal.returns-clause-amounts
returns-clause-amounts g c a text flow there = book-amounts a text flow there
