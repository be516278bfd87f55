-- The text of `books.csv`, as the rows that it has.
use Rattle.std.specs.Prelude.{◌≡◌, ◌≢◌, ◌⊎◌, ◌+◌, ◌-◌, ℕ, Bool, true, false, Option, None, Some, List, [], ◌∷◌, ◌++◌}
use Rattle.std.specs.Prelude.{codes, flat_map, length}
use Rattle.std.specs.Prelude.{nat_lt, slice_get, ⊤}
use Rattle.std.specs.List.{All}
use Rattle.share_catalog.specs.Pieces.{pieces_of}
use Rattle.share_catalog.specs.Reads.{IsSpelledByNone}
use Rattle.share_catalog.specs.Rows.{IsRow, header_text, row_text, IsWrong as IsWrongColumn}
use Rattle.share_catalog.specs.declared.row.Row.{Row}
use Rattle.share_verification.specs.Lines.{HasNoLine}
use Rattle.share_verification.specs.declared.table.NotRows.{NotRows}
use Rattle.share_verification.specs.declared.table.NotRows.TheVariants.{NoMemory, Line}
use Rattle.share_verification.specs.declared.table.WrongLine.{WrongLine}
use Rattle.share_verification.specs.declared.table.WrongLine.TheVariants.{Header, Column, Order}

-- the line of a row
abbrev pub line_of : Row → List ℕ
line_of r = row_text r ++ codes "\n"

-- its book is above that of the row before, if there is one
abbrev pub is_above : Option Row → Row → Bool
is_above None row = true
is_above (Some last) row = nat_lt last.book row.book

-- a row may follow these: its book is above that of the last one
abbrev pub follows : List Row → Row → Bool
follows rows row = is_above (slice_get rows (length rows - 1)) row

-- each row may follow those before it
pub data Ascends : List Row → Type 0 where
  none : Ascends []
  one_more : (rows : List Row) (row : Row) → Ascends rows → follows rows row ≡ true → Ascends (rows ++ row ∷ [])

-- these lines are those of rows, and bytes without a line feed follow them
pub record AreLinesBefore (text : List ℕ) (rows : List Row) (rest : List ℕ) : Type 0 where
  pub joined : text ≡ flat_map line_of rows ++ rest
  pub each : All IsRow rows
  pub ascend : Ascends rows

-- the lines are those of rows, and no other line follows them
pub record AreLines (text : List ℕ) (rows : List Row) : Type 0 where
  pub rest : List ℕ
  pub lines : AreLinesBefore text rows rest
  pub last : HasNoLine rest

-- the names of the columns and these rows; or no line at all
abbrev pub IsTable : List ℕ → List Row → Type 0
IsTable text rows =
    ((lines : List ℕ) × (text ≡ header_text ++ lines) × AreLines lines rows) ⊎ (HasNoLine text × (rows ≡ []))

-- Wrong lines

-- the fault of the line after these rows
abbrev pub IsWrongLine : List Row → List ℕ → WrongLine → Type 0
IsWrongLine rows line Header = ⊥
IsWrongLine rows line (Column column) =
    IsSpelledByNone Row row_text IsRow line × IsWrongColumn column (pieces_of 44 line)
IsWrongLine rows line Order =
    (row : Row) × IsRow row × (row_text row ≡ line) × (follows rows row ≡ false)

-- the fault of the line after these rows, by its number
abbrev pub IsWrong : List Row → List ℕ → NotRows → Type 0
IsWrong rows line NoMemory = ⊤
IsWrong rows line (Line number wrong) = (number ≡ length rows + 2) × IsWrongLine rows line wrong

-- the row of the line comes after these
pub record IsLineOf (old : List Row) (line : List ℕ) (new : List Row) : Type 0 where
  pub row : Row
  pub added : new ≡ old ++ row ∷ []
  pub is : IsRow row
  pub spelled : row_text row ≡ line
  pub after : follows old row ≡ true

-- the first line that is wrong has lines of rows before it
pub record IsFirstWrong (text : List ℕ) (number : ℕ) (wrong : WrongLine) : Type 0 where
  pub rows : List Row
  pub line : List ℕ
  pub rest : List ℕ
  pub before : AreLinesBefore text rows (line ++ 10 ∷ rest)
  pub whole : HasNoLine line
  pub is : (number ≡ length rows + 2) × IsWrongLine rows line wrong

-- the fault of the lines after the first one
abbrev pub IsLineFault : List ℕ → NotRows → Type 0
IsLineFault text NoMemory = ⊤
IsLineFault text (Line number wrong) = IsFirstWrong text number wrong

-- the text does not begin with the names of the columns
pub record HasNoHeader (text : List ℕ) : Type 0 where
  pub other : (lines : List ℕ) → text ≢ header_text ++ lines
  pub line : ¬ (HasNoLine text)

abbrev pub IsWrongTable : List ℕ → ℕ → WrongLine → Type 0
IsWrongTable text number Header = (number ≡ 1) × HasNoHeader text
IsWrongTable text number (Column column) =
    (lines : List ℕ) × (text ≡ header_text ++ lines) × IsFirstWrong lines number (Column column)
IsWrongTable text number Order =
    (lines : List ℕ) × (text ≡ header_text ++ lines) × IsFirstWrong lines number Order

-- the fault of a text
abbrev pub IsTableFault : List ℕ → NotRows → Type 0
IsTableFault text NoMemory = ⊤
IsTableFault text (Line number wrong) = IsWrongTable text number wrong
