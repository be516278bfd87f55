use Rattle.share_book.proofs.BookHistoryLemmas.{books-in_order, books-cut}
use Rattle.share_book.proofs.book_laws.books_lose_nothing.Goals as goal

pub returns-clause-order : goal.returns-clause-order
returns-clause-order c = books-in_order c.opened_links_hold_their_plans.ensures

pub returns-clause-cut : goal.returns-clause-cut
returns-clause-cut c = books-cut c.opened_links_hold_their_plans.ensures
