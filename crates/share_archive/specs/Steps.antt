-- The steps that close or recover a book, and what the book comes to.
use Rattle.std.specs.Prelude.{◌≡◌, ◌+◌, ◌⊎◌, ℕ, Bool, true, false}
use Rattle.share_archive.specs.declared.plan.BookState.{BookState}
use Rattle.share_archive.specs.declared.plan.BookText.{BookText}
use Rattle.share_archive.specs.declared.plan.BookText.TheVariants.{Absent, Headless, Open, Closed, Bad}
use Rattle.share_archive.specs.declared.plan.RowState.{RowState}
use Rattle.share_archive.specs.declared.plan.RowState.TheVariants.{Missing, Cut, Whole}
use Rattle.share_archive.specs.declared.plan.Step.{Step}
use Rattle.share_archive.specs.declared.plan.Step.TheVariants.{CutRow, RemovePart, RemoveText, CloseText, MarkBad}
use Rattle.share_archive.specs.declared.plan.Step.TheVariants.{WriteReport, RemoveReport, AppendRow, RemoveTariffs}

-- The final state of a book

-- a run is closed, another text is set aside, and one without a first line is removed
abbrev pub settled_text : BookText → BookText
settled_text Absent = Absent
settled_text Headless = Absent
settled_text (Open true) = Closed true
settled_text (Open false) = Bad
settled_text (Closed true) = Closed true
settled_text (Closed false) = Bad
settled_text Bad = Bad

-- a closed book has a report, and one that is set aside has none
abbrev pub report_of : BookText → Bool → Bool
report_of Absent report = report
report_of Headless report = report
report_of (Open is_run) report = is_run
report_of (Closed is_run) report = is_run
report_of Bad report = false

abbrev pub without_cut : RowState → RowState
without_cut Missing = Missing
without_cut Cut = Missing
without_cut Whole = Whole

-- a book with a text has a row
abbrev pub row_of : BookText → RowState → RowState
row_of Absent row = without_cut row
row_of Headless row = without_cut row
row_of (Open is_run) row = Whole
row_of (Closed is_run) row = Whole
row_of Bad row = Whole

-- and nothing else is left
abbrev pub settled : BookState → BookState
settled s = record {
  text = settled_text s.text;
  report = report_of s.text s.report;
  part = false;
  row = row_of s.text s.row;
  tariffs = false;
}

-- Steps, whole and cut short by a kill

abbrev pub after : Step → BookState → BookState
after CutRow s = record s { row = Missing }
after RemovePart s = record s { part = false }
after RemoveText s = record s { text = Absent }
after CloseText s = record s { text = Closed true }
after MarkBad s = record s { text = Bad }
after WriteReport s = record s { report = true }
after RemoveReport s = record s { report = false }
after AppendRow s = record s { row = Whole }
after RemoveTariffs s = record s { tariffs = false }

-- a report may be there in part, and a row without its line feed; each other step is made or not
abbrev pub cut_short : Step → BookState → BookState
cut_short CutRow s = s
cut_short RemovePart s = s
cut_short RemoveText s = s
cut_short CloseText s = s
cut_short MarkBad s = s
cut_short WriteReport s = record s { part = true }
cut_short RemoveReport s = s
cut_short AppendRow s = record s { row = Cut }
cut_short RemoveTariffs s = s

-- The order of steps

-- the text is closed and has a report, or it is set aside and has none
abbrev pub HasReport : BookState → Type 0
HasReport s =
    ((s.text ≡ Closed true) × (s.report ≡ true)) ⊎ ((s.text ≡ Bad) × (s.report ≡ false))

-- there is no text, or the row of the text is whole
abbrev pub HasRow : BookState → Type 0
HasRow s = (s.text ≡ Absent) ⊎ ((s.row ≡ Whole) × HasReport s)

abbrev pub IsUncut : RowState → Type 0
IsUncut row = without_cut row ≡ row

-- a step may be made: the report before the row, and the tariffs' file stays until the row is whole
abbrev pub May : Step → BookState → Type 0
May CutRow s = s.row ≡ Cut
May RemovePart s = s.part ≡ true
May RemoveText s = s.text ≡ Headless
May CloseText s = s.text ≡ Open true
May MarkBad s = (s.text ≡ Open false) ⊎ (s.text ≡ Closed false)
May WriteReport s = (s.text ≡ Closed true) × (s.report ≡ false) × (s.part ≡ false)
May RemoveReport s = (s.text ≡ Bad) × (s.report ≡ true)
May AppendRow s = (s.row ≡ Missing) × HasReport s
May RemoveTariffs s = (s.tariffs ≡ true) × HasRow s

-- Any number of starts and kills

-- the files that the folder may have of a book after steps that may be made, each whole or cut short
pub data Reaches (from : BookState) : BookState → Type 0 where
  began : Reaches from from
  whole : (s : BookState) (step : Step) → Reaches from s → May step s → Reaches from (after step s)
  killed : (s : BookState) (step : Step) → Reaches from s → May step s → Reaches from (cut_short step s)

-- The number of steps left

abbrev pub text_left : BookText → ℕ
text_left Absent = 0
text_left Headless = 1
text_left (Open is_run) = 1
text_left (Closed true) = 0
text_left (Closed false) = 1
text_left Bad = 0

-- a report to be written, or to be removed
abbrev pub report_left : BookText → Bool → ℕ
report_left Absent report = 0
report_left Headless report = 0
report_left (Open true) true = 0
report_left (Open true) false = 1
report_left (Open false) true = 1
report_left (Open false) false = 0
report_left (Closed true) true = 0
report_left (Closed true) false = 1
report_left (Closed false) true = 1
report_left (Closed false) false = 0
report_left Bad true = 1
report_left Bad false = 0

abbrev pub cut_left : RowState → ℕ
cut_left Missing = 0
cut_left Cut = 1
cut_left Whole = 0

-- a row to be appended
abbrev pub missing_left : RowState → ℕ
missing_left Missing = 1
missing_left Cut = 1
missing_left Whole = 0

abbrev pub row_left : BookText → RowState → ℕ
row_left Absent row = 0
row_left Headless row = 0
row_left (Open is_run) row = missing_left row
row_left (Closed is_run) row = missing_left row
row_left Bad row = missing_left row

abbrev pub file_left : Bool → ℕ
file_left true = 1
file_left false = 0

abbrev pub steps_left : BookState → ℕ
steps_left s =
    text_left s.text + report_left s.text s.report + file_left s.part + cut_left s.row + row_left s.text s.row
    + file_left s.tariffs
