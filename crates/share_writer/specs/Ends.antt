-- The lines that are written of a book at its close.
use Rattle.std.specs.Prelude.{ℕ, List}
use Rattle.share_catalog.specs.declared.row.Row.{Row}
use Rattle.share_writer.specs.declared.book_close.BookClose.{BookClose}

-- the row of a book whose text has this digest
abbrev pub row_of : ℕ → List ℕ → BookClose → Row
row_of book sha256 c = record {
  book = book;
  kind = c.kind;
  opened = c.opened;
  closed = c.closed;
  why = c.why;
  tariffs = c.tariffs;
  totals = c.totals;
  sha256 = sha256;
}
