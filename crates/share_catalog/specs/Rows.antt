-- The rows of `books.csv`: how they are spelled, and which column of other bytes is no row's.
use Rattle.std.specs.Prelude.{◌≡◌, ◌≢◌, ◌<◌, ℕ, List, [], ◌∷◌, ◌++◌, Some, Result, MatchResult, length, slice_get}
use Rattle.std.specs.Prelude.{codes, decimal}
use Rattle.std.specs.List.{join_with_byte}
use Rattle.share_catalog.specs.Texts.{IsNumber, IsDigest, AreTariffs, kind_text, closing_text, tariffs_text}
use Rattle.share_catalog.specs.Texts.{digest_text}
use Rattle.share_catalog.specs.Times.{time_text}
use Rattle.share_catalog.specs.declared.row.Row.{Row}
use Rattle.share_catalog.specs.declared.row.Totals.{Totals}
use Rattle.share_catalog.specs.declared.row.Column.{Column}
use Rattle.share_catalog.specs.declared.row.Column.TheVariants.{Book, Kind, Opened, Closed, Why, Tariffs, Events}
use Rattle.share_catalog.specs.declared.row.Column.TheVariants.{Packets}
use Rattle.share_catalog.specs.declared.row.Column.TheVariants.{Bytes, Units, Amount, Sha256, End}

-- The values that a row can have

pub record AreTotals (t : Totals) : Type 0 where
  pub events : IsNumber t.events
  pub packets : IsNumber t.packets
  pub bytes : IsNumber t.bytes
  pub units : IsNumber t.units
  pub amount : IsNumber t.amount

pub record IsRow (r : Row) : Type 0 where
  pub book : IsNumber r.book
  pub tariffs : AreTariffs r.tariffs
  pub totals : AreTotals r.totals
  pub sha256 : IsDigest r.sha256

-- Its spelling

-- the first line, before the rows
abbrev pub header_text : List ℕ
header_text = codes "book,kind,opened,closed,why,tariffs,events,packets,bytes,units,amount,sha256\n"

abbrev pub time_columns : Row → List (List ℕ)
time_columns r = time_text r.opened ∷ time_text r.closed ∷ closing_text r.why ∷ []

abbrev pub head_columns : Row → List (List ℕ)
head_columns r = decimal r.book ∷ kind_text r.kind ∷ (time_columns r ++ tariffs_text r.tariffs ∷ [])

abbrev pub total_columns : Totals → List (List ℕ)
total_columns t =
    decimal t.events ∷ decimal t.packets ∷ decimal t.bytes ∷ decimal t.units ∷ decimal t.amount ∷ []

abbrev pub columns : Row → List (List ℕ)
columns r = head_columns r ++ total_columns r.totals ++ digest_text r.sha256 ∷ []

-- the columns with commas between them
abbrev pub row_text : Row → List ℕ
row_text r = join_with_byte 44 (columns r)

-- The fault of other bytes

-- the piece at this place is not what any row has there
pub record IsNoColumn (place : ℕ) (text : Row → List ℕ) (pieces : List (List ℕ)) : Type 0 where
  pub other : (r : Row) → IsRow r → slice_get pieces place ≢ Some (text r)

abbrev pub IsWrong : Column → List (List ℕ) → Type 0
IsWrong Book pieces = IsNoColumn 0 (λ r. decimal r.book) pieces
IsWrong Kind pieces = IsNoColumn 1 (λ r. kind_text r.kind) pieces
IsWrong Opened pieces = IsNoColumn 2 (λ r. time_text r.opened) pieces
IsWrong Closed pieces = IsNoColumn 3 (λ r. time_text r.closed) pieces
IsWrong Why pieces = IsNoColumn 4 (λ r. closing_text r.why) pieces
IsWrong Tariffs pieces = IsNoColumn 5 (λ r. tariffs_text r.tariffs) pieces
IsWrong Events pieces = IsNoColumn 6 (λ r. decimal r.totals.events) pieces
IsWrong Packets pieces = IsNoColumn 7 (λ r. decimal r.totals.packets) pieces
IsWrong Bytes pieces = IsNoColumn 8 (λ r. decimal r.totals.bytes) pieces
IsWrong Units pieces = IsNoColumn 9 (λ r. decimal r.totals.units) pieces
IsWrong Amount pieces = IsNoColumn 10 (λ r. decimal r.totals.amount) pieces
IsWrong Sha256 pieces = IsNoColumn 11 (λ r. digest_text r.sha256) pieces
IsWrong End pieces = 12 < length pieces

-- the row with these columns, or one that is wrong
abbrev pub ReadsRow : List (List ℕ) → Result Row Column → Type 0
ReadsRow pieces read =
    MatchResult read (λ row. IsRow row × (pieces ≡ columns row)) (λ column. IsWrong column pieces)

-- the totals in the first pieces; or one that is wrong, whatever six pieces stand before them
abbrev pub ReadsTotals : List (List ℕ) → List (List ℕ) → Result Totals Column → Type 0
ReadsTotals before after read =
    MatchResult read (λ t. AreTotals t × (before ≡ total_columns t ++ after))
    (λ column. (head : List (List ℕ)) → length head ≡ 6 → IsWrong column (head ++ before))
