-- Rows are read line by line.
use Rattle.std.proofs.Common.{◌≡◌, ◌+◌, ℕ, true, false, List, [], ◌∷◌, ◌++◌, codes, flat_map, length, take, drop, inl}
use Rattle.std.proofs.Common.{Result, Ok, Err, MatchResult}
use Rattle.std.proofs.Common.{arith, sym, ◌∙◌, ap, refl, append_assoc}
use Rattle.std.specs.List.{All}
use Rattle.std.specs.Str.{bytes_eq}
use Rattle.std.proofs.lemmas.List.{append-nil, take-append-le, take-append-drop, take_all}
use Rattle.std.proofs.lemmas.Slice.Eq.{bytes_eq-Decides}
use Rattle.std.proofs.lemmas.List.Concat.{flat_map-append}
use Rattle.std.proofs.lemmas.List.Elements.{All-nil, All-push}
use Rattle.share_catalog.specs.Rows.{IsRow, header_text, row_text}
use Rattle.share_catalog.specs.declared.row.Row.{Row}
use Rattle.share_verification.specs.Lines.{HasNoLine, BeginsWithLine}
use Rattle.share_verification.specs.Tables.{line_of, follows, Ascends, AreLinesBefore, IsLineOf, IsWrong}
use Rattle.share_verification.specs.Tables.{AreLines, IsTable, IsLineFault, IsTableFault}
use Rattle.share_verification.specs.Tables.Ascends.{none, one_more}
use Rattle.share_verification.specs.declared.table.NotRows.{NotRows}
use Rattle.share_verification.specs.declared.table.NotRows.TheVariants.{NoMemory, Line}
use Rattle.share_verification.specs.declared.table.WrongLine.TheVariants.{Header, Column, Order}

no_rows : (text : List ℕ) → AreLinesBefore text [] text
no_rows text = record { joined = refl; each = All-nil IsRow; ascend = none }

pub begun : (rows : List Row) (text : List ℕ) → rows ≡ [] → AreLinesBefore text rows text
begun rows text is = rw is (no_rows text)

-- the line of one row more
rows_and : (old : List Row) (row : Row) (line rest : List ℕ) → row_text row ≡ line
    → flat_map line_of (old ++ row ∷ []) ++ rest ≡ flat_map line_of old ++ (line ++ 10 ∷ rest)
rows_and old row line rest is =
    ap (λ t. t ++ rest) (flat_map-append line_of old (row ∷ []))
    ∙ ap (λ t. (flat_map line_of old ++ t) ++ rest) (append-nil (line_of row))
    ∙ append_assoc (flat_map line_of old) (line_of row) rest
    ∙ ap (λ t. flat_map line_of old ++ t) (append_assoc (row_text row) (codes "\n") rest)
    ∙ ap (λ t. flat_map line_of old ++ (t ++ 10 ∷ rest)) is

joined_more : (text line rest left : List ℕ) (old : List Row) (row : Row) → text ≡ flat_map line_of old ++ left
    → left ≡ line ++ 10 ∷ rest → row_text row ≡ line → text ≡ flat_map line_of (old ++ row ∷ []) ++ rest
joined_more text line rest left old row was begins is =
    was ∙ ap (λ t. flat_map line_of old ++ t) begins ∙ sym (rows_and old row line rest is)

lines_and : (text line rest left : List ℕ) (old : List Row) (row : Row) → AreLinesBefore text old left
    → BeginsWithLine left line rest → IsRow row → row_text row ≡ line → follows old row ≡ true
    → AreLinesBefore text (old ++ row ∷ []) rest
lines_and text line rest left old row before begins is spelled after = record {
  joined = joined_more text line rest left old row before.joined begins.joined spelled;
  each = All-push IsRow old row before.each is;
  ascend = one_more old row before.ascend after;
}

pub next_line : (text line rest left : List ℕ) (old new : List Row) → AreLinesBefore text old left
    → BeginsWithLine left line rest → IsLineOf old line new → AreLinesBefore text new rest
next_line text line rest left old new before begins more =
    rw more.added (lines_and text line rest left old more.row before begins more.is more.spelled more.after)

-- Wrong lines

pub wrong_order : (rows old : List Row) (line : List ℕ) (row : Row) (fault : NotRows)
    → fault ≡ Line (length rows + 2) Order → rows ≡ old → IsRow row → row_text row ≡ line → follows old row ≡ false
    → IsWrong old line fault
wrong_order rows old line row fault is same fits spelled after =
    rw is (ap (λ rs. length rs + 2) same, (row, fits, spelled, after))

-- The first line

pub stripped : (s p x : List ℕ) → bytes_eq (take (length p) s) p ≡ true → x ≡ drop (length p) s → s ≡ p ++ x
stripped s p x same is =
    sym (take-append-drop (length p) s)
    ∙ ap (λ t. t ++ drop (length p) s) ((bytes_eq-Decides (take (length p) s) p).0 same) ∙ ap (λ t. p ++ t) (sym is)

pub not_stripped : (s p : List ℕ) → bytes_eq (take (length p) s) p ≡ false → (rest : List ℕ) → s ≡ p ++ rest → ⊥
not_stripped s p other rest e =
    let same : take (length p) s ≡ p = ap (take (length p)) e
    ∙ take-append-le (length p) p rest (omega arith) ∙ take_all (length p) p (omega arith) in
    let equal : bytes_eq (take (length p) s) p ≡ true = (bytes_eq-Decides (take (length p) s) p).1 same in
    cc

pub table_of : (text lines : List ℕ) (rows : List Row) → text ≡ header_text ++ lines → AreLines lines rows
    → IsTable text rows
table_of text lines rows is are = inl (lines, is, are)

pub table_fault : (text lines : List ℕ) (fault : NotRows) → text ≡ header_text ++ lines → IsLineFault lines fault
    → IsTableFault text fault
table_fault text lines NoMemory is wrong = wrong
table_fault text lines (Line number Header) is wrong = absurd wrong.is.1
table_fault text lines (Line number (Column column)) is wrong = (lines, is, wrong)
table_fault text lines (Line number Order) is wrong = (lines, is, wrong)

pub by_header : {A : Type 0} (text lines : List ℕ) (rows : List Row) (result : Result A NotRows)
    → text ≡ header_text ++ lines
    → MatchResult result (λ _. AreLines lines rows) (IsLineFault lines)
    → MatchResult result (λ _. IsTable text rows) (IsTableFault text)
by_header text lines rows (Ok done) is read = table_of text lines rows is read
by_header text lines rows (Err fault) is read = table_fault text lines fault is read
