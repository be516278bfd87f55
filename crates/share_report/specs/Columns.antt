-- The columns of the code.
use Rattle.std.specs.Prelude.{ℕ, List}
use Rattle.share_report.specs.declared.text.Column.{Column}
use Rattle.share_report.specs.declared.text.Column.TheVariants.{Left, Right}
pub use Rattle.share_model.specs.text.Columns.{spaces}
unfoldable pub use Rattle.share_model.specs.text.Columns.{at_left, at_right}

abbrev pub width_of : Column → ℕ
width_of (Left width) = width
width_of (Right width) = width

-- a text at the left or at the right of its column, and spaces in the rest
abbrev pub column_text : Column → List ℕ → List ℕ
column_text (Left width) text = at_left width text
column_text (Right width) text = at_right width text
