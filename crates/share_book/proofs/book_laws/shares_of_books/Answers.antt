use Rattle.share_book.proofs.ShareLemmas.{text-shares}
use Rattle.share_book.proofs.book_laws.shares_of_books.Goals as goal

pub returns : goal.returns
returns c = text-shares
