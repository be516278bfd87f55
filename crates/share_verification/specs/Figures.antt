-- The figures of a book beside its row.
use Rattle.std.specs.Prelude.{◌==◌, ℕ, List, Option, Some, None, find}
use Rattle.share_catalog.specs.Billed.{mismatch_of}
use Rattle.share_catalog.specs.declared.billed.Mismatch.{Mismatch}
use Rattle.share_catalog.specs.declared.row.Row.{Row}
use Rattle.share_verification.specs.declared.figures.BookFigures.{BookFigures}

-- the row of a book, the first if there are several
abbrev pub row_of : List Row → ℕ → Option Row
row_of rows book = find (λ (r : Row). r.book == book) rows

abbrev pub mismatch_with : Option Row → BookFigures → Option Mismatch
mismatch_with None f = None
mismatch_with (Some r) f = mismatch_of r f.sha256 f.units f.amount

-- the first figure of a book that its row has otherwise
abbrev pub mismatch_in : List Row → BookFigures → Option Mismatch
mismatch_in rows f = mismatch_with (row_of rows f.book) f
