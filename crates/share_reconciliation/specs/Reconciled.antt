-- The bill of a book's text.
use Rattle.std.specs.Prelude.{◌≡◌, ℕ, List, ◌++◌, None, ⊤}
use Rattle.share_model.specs.declared.reader.Got.{Got}
use Rattle.share_bill.specs.Bills.{rows_of}
use Rattle.share_bill.specs.Texts.{InputFails}
use Rattle.share_bill.specs.declared.bill.kind.Kind.{Kind}
use Rattle.share_bill.specs.declared.bill.kind.Kind.TheVariants.{Whole, Lengths}
use Rattle.share_bill.specs.declared.bill.text.BookBill.{BookBill}
use Rattle.share_bill.specs.declared.bill.text.NotBilled.{NotBilled}
use Rattle.share_bill.specs.declared.bill.text.NotBilled.TheVariants.{Input, NoMemory, Line}
use Rattle.share_book.specs.Audited.{Audited, IsRunAndText}
use Rattle.share_book.specs.declared.book_text.TextKind.{TextKind}
use Rattle.share_book.specs.declared.book_text.TextKind.TheVariants.{Whole as WholeText, Lengths as LengthsText}

-- the kind of a bill, by that of the text
abbrev pub billed_kind : TextKind → Kind
billed_kind WholeText = Whole
billed_kind LengthsText = Lengths

-- the text of a book from its first line on: what was drained of it, and what was not
abbrev pub whole_text : (a : Audited) → IsRunAndText a → List ℕ
whole_text a text = text.drained ++ a.text.bytes

-- the rows are those of the book's events, and no line is cut
pub record IsBillOfBook (a : Audited) (text : IsRunAndText a) (bill : BookBill) : Type 0 where
  pub kind : bill.kind ≡ billed_kind a.kind
  pub rows : bill.rows.items ≡ rows_of a.link.rates text.events
  pub uncut : bill.cut ≡ None

-- a read failed, or memory was refused; no line is wrong
abbrev pub IsUnbilled : {R : Type 0} → (R → List ℕ → Got → R → Type 0) → R → NotBilled → Type 0
IsUnbilled gives first Input = InputFails gives first
IsUnbilled gives first NoMemory = ⊤
IsUnbilled gives first (Line number wrong) = ⊥
