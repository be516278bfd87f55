-- Each step that may be made, whole or cut short, keeps what the book comes to.
use Rattle.std.proofs.Common.{◌≡◌, ◌+◌, ◌≤◌, inl, inr, Bool, true, false, arith, sym, ◌∙◌, refl}
use Rattle.share_archive.specs.Steps.{settled, settled_text, report_of, row_of, without_cut, after, cut_short, May}
use Rattle.share_archive.specs.Steps.{HasReport}
use Rattle.share_archive.specs.Steps.{HasRow, IsUncut, Reaches, began, whole, killed, steps_left, text_left}
use Rattle.share_archive.specs.Steps.{report_left}
use Rattle.share_archive.specs.Steps.{cut_left, missing_left, row_left, file_left}
use Rattle.share_archive.specs.declared.plan.BookState.{BookState}
use Rattle.share_archive.specs.declared.plan.BookText.{BookText}
use Rattle.share_archive.specs.declared.plan.BookText.TheVariants.{Absent, Headless, Open, Closed, Bad}
use Rattle.share_archive.specs.declared.plan.RowState.{RowState}
use Rattle.share_archive.specs.declared.plan.RowState.TheVariants.{Missing, Cut, Whole}
use Rattle.share_archive.specs.declared.plan.Step.{Step}
use Rattle.share_archive.specs.declared.plan.Step.TheVariants.{CutRow, RemovePart, RemoveText, CloseText, MarkBad}
use Rattle.share_archive.specs.declared.plan.Step.TheVariants.{WriteReport, RemoveReport, AppendRow, RemoveTariffs}

-- a book is what its parts come to
same_by : (s t : BookState) → settled_text s.text ≡ settled_text t.text → report_of s.text s.report
    ≡ report_of t.text t.report → row_of s.text s.row ≡ row_of t.text t.row → settled s ≡ settled t
same_by s t text report row = rw (text, report, row) refl

cut_row : (t : BookText) → row_of t Missing ≡ row_of t Cut
cut_row Absent = refl
cut_row Headless = refl
cut_row (Open r) = refl
cut_row (Closed r) = refl
cut_row Bad = refl

row_with_report : (s : BookState) (row : RowState) → HasReport s → row_of s.text row ≡ row_of s.text s.row
row_with_report s row (inl h) = rw h.0 refl
row_with_report s row (inr h) = rw h.0 refl

pub kept_whole : (s : BookState) (step : Step) → May step s → settled (after step s) ≡ settled s
kept_whole s CutRow may = same_by (after CutRow s) s refl refl (rw may (cut_row s.text))
kept_whole s RemovePart may = refl
kept_whole s RemoveText may = same_by (after RemoveText s) s (rw may refl) (rw may refl) (rw may refl)
kept_whole s CloseText may = same_by (after CloseText s) s (rw may refl) (rw may refl) (rw may refl)
kept_whole s MarkBad (inl may) = same_by (after MarkBad s) s (rw may refl) (rw may refl) (rw may refl)
kept_whole s MarkBad (inr may) = same_by (after MarkBad s) s (rw may refl) (rw may refl) (rw may refl)
kept_whole s WriteReport may = same_by (after WriteReport s) s refl (rw may.0 refl) refl
kept_whole s RemoveReport may = same_by (after RemoveReport s) s refl (rw may.0 refl) refl
kept_whole s AppendRow may = same_by (after AppendRow s) s refl refl (row_with_report s Whole may.1)
kept_whole s RemoveTariffs may = refl

pub kept_cut : (s : BookState) (step : Step) → May step s → settled (cut_short step s) ≡ settled s
kept_cut s CutRow may = refl
kept_cut s RemovePart may = refl
kept_cut s RemoveText may = refl
kept_cut s CloseText may = refl
kept_cut s MarkBad may = refl
kept_cut s WriteReport may = refl
kept_cut s RemoveReport may = refl
kept_cut s AppendRow may = same_by (cut_short AppendRow s) s refl refl (row_with_report s Cut may.1)
kept_cut s RemoveTariffs may = refl

pub kept : (from book : BookState) → Reaches from book → settled book ≡ settled from
kept from book began = refl
kept from book (whole s step before may) = kept_whole s step may ∙ kept from s before
kept from book (killed s step before may) = kept_cut s step may ∙ kept from s before

-- Steps that are left

closed_less : (report : Bool) (row : RowState) → text_left (Closed true) + report_left (Closed true) report
    ≡ report_left (Open true) report
closed_less true row = refl
closed_less false row = refl

same_report : (r : Bool) (report : Bool) → report_left (Open r) report ≡ report_left (Closed r) report
same_report true true = refl
same_report true false = refl
same_report false true = refl
same_report false false = refl

bad_report : (report : Bool) → report_left Bad report ≡ report_left (Open false) report
bad_report true = refl
bad_report false = refl

bad_closed_report : (report : Bool) → report_left Bad report ≡ report_left (Closed false) report
bad_closed_report true = refl
bad_closed_report false = refl

cut_row_left : (t : BookText) → row_left t Missing ≡ row_left t Cut
cut_row_left Absent = refl
cut_row_left Headless = refl
cut_row_left (Open r) = refl
cut_row_left (Closed r) = refl
cut_row_left Bad = refl

row_less : (s : BookState) → HasReport s → (row_left s.text Whole ≡ 0) × (row_left s.text Missing ≡ 1)
row_less s (inl h) = (rw h.0 refl, rw h.0 refl)
row_less s (inr h) = (rw h.0 refl, rw h.0 refl)

pub less : (s : BookState) (step : Step) → May step s → steps_left (after step s) + 1 ≡ steps_left s
less s CutRow may = rw may (omega (arith, cut_row_left s.text))
less s RemovePart may = rw may (omega arith)
less s RemoveText may = rw may (omega arith)
less s CloseText may = rw may (omega (arith, same_report true s.report))
less s MarkBad (inl may) = rw may (omega (arith, bad_report s.report))
less s MarkBad (inr may) = rw may (omega (arith, bad_closed_report s.report))
less s WriteReport may = rw (may.0, may.1) (omega arith)
less s RemoveReport may = rw (may.0, may.1) (omega arith)
less s AppendRow may = let p = row_less s may.1 in rw may.0 (omega (arith, p.0, p.1))
less s RemoveTariffs may = rw may.0 (omega arith)

few_text : (t : BookText) → text_left t ≤ 1
few_text Absent = omega arith
few_text Headless = omega arith
few_text (Open r) = omega arith
few_text (Closed true) = omega arith
few_text (Closed false) = omega arith
few_text Bad = omega arith

few_report : (t : BookText) (report : Bool) → report_left t report ≤ 1
few_report Absent report = omega arith
few_report Headless report = omega arith
few_report (Open true) true = omega arith
few_report (Open true) false = omega arith
few_report (Open false) true = omega arith
few_report (Open false) false = omega arith
few_report (Closed true) true = omega arith
few_report (Closed true) false = omega arith
few_report (Closed false) true = omega arith
few_report (Closed false) false = omega arith
few_report Bad true = omega arith
few_report Bad false = omega arith

few_missing : (row : RowState) → missing_left row ≤ 1
few_missing Missing = omega arith
few_missing Cut = omega arith
few_missing Whole = omega arith

few_row : (t : BookText) (row : RowState) → row_left t row ≤ 1
few_row Absent row = omega arith
few_row Headless row = omega arith
few_row (Open r) row = few_missing row
few_row (Closed r) row = few_missing row
few_row Bad row = few_missing row

few_cut : (row : RowState) → cut_left row ≤ 1
few_cut Missing = omega arith
few_cut Cut = omega arith
few_cut Whole = omega arith

few_file : (b : Bool) → file_left b ≤ 1
few_file true = omega arith
few_file false = omega arith

pub few : (s : BookState) → steps_left s ≤ 6
few s =
    omega (
      arith,
      few_text s.text,
      few_report s.text s.report,
      few_row s.text s.row,
      few_cut s.row,
      few_file s.part,
      few_file s.tariffs,
    )

-- No step is left

rest_text : (t : BookText) → text_left t ≡ 0 → settled_text t ≡ t
rest_text Absent e = refl
rest_text Headless e = absurd (omega arith)
rest_text (Open r) e = absurd (omega arith)
rest_text (Closed true) e = refl
rest_text (Closed false) e = absurd (omega arith)
rest_text Bad e = refl

rest_report : (t : BookText) (report : Bool) → text_left t ≡ 0 → report_left t report ≡ 0 → report_of t report ≡ report
rest_report Absent report e f = refl
rest_report Headless report e f = refl
rest_report (Open r) report e f = absurd (omega arith)
rest_report (Closed true) true e f = refl
rest_report (Closed true) false e f = absurd (omega arith)
rest_report (Closed false) report e f = absurd (omega arith)
rest_report Bad true e f = absurd (omega arith)
rest_report Bad false e f = refl

rest_cut : (row : RowState) → cut_left row ≡ 0 → without_cut row ≡ row
rest_cut Missing e = refl
rest_cut Cut e = absurd (omega arith)
rest_cut Whole e = refl

rest_missing : (row : RowState) → missing_left row ≡ 0 → Whole ≡ row
rest_missing Missing e = absurd (omega arith)
rest_missing Cut e = absurd (omega arith)
rest_missing Whole e = refl

rest_row : (t : BookText) (row : RowState) → cut_left row ≡ 0 → row_left t row ≡ 0 → row_of t row ≡ row
rest_row Absent row e f = rest_cut row e
rest_row Headless row e f = rest_cut row e
rest_row (Open r) row e f = rest_missing row f
rest_row (Closed r) row e f = rest_missing row f
rest_row Bad row e f = rest_missing row f

rest_file : (b : Bool) → file_left b ≡ 0 → false ≡ b
rest_file true e = absurd (omega arith)
rest_file false e = refl

pub state_is : (s : BookState) → settled_text s.text ≡ s.text → report_of s.text s.report ≡ s.report → false ≡ s.part
    → row_of s.text s.row ≡ s.row → false ≡ s.tariffs → settled s ≡ s
state_is s text report part row tariffs = rw (text, report, row, ← part, ← tariffs) refl

pub rest : (s : BookState) → steps_left s ≡ 0 → settled s ≡ s
rest s e =
    let text : text_left s.text ≡ 0 = omega arith in
    let report : report_left s.text s.report ≡ 0 = omega arith in
    let part : file_left s.part ≡ 0 = omega arith in
    let cut : cut_left s.row ≡ 0 = omega arith in
    let row : row_left s.text s.row ≡ 0 = omega arith in
    let tariffs : file_left s.tariffs ≡ 0 = omega arith in
    state_is s (rest_text s.text text) (rest_report s.text s.report text report) (rest_file s.part part)
    (rest_row s.text s.row cut row) (rest_file s.tariffs tariffs)

-- No step may be made

with_report : (s : BookState) → s.row ≡ Whole → HasReport s → s.part ≡ false → s.tariffs ≡ false → settled s ≡ s
with_report s row (inl h) part tariffs =
    state_is s (rw h.0 refl) (rw (h.0, h.1) refl) (sym part) (rw (h.0, row) refl) (sym tariffs)
with_report s row (inr h) part tariffs =
    state_is s (rw h.0 refl) (rw (h.0, h.1) refl) (sym part) (rw (h.0, row) refl) (sym tariffs)

pub settled_rest : (s : BookState) → HasRow s → s.part ≡ false → IsUncut s.row → s.tariffs ≡ false → settled s ≡ s
settled_rest s (inl none) part uncut tariffs =
    state_is s (rw none refl) (rw none refl) (sym part) (rw none uncut) (sym tariffs)
settled_rest s (inr both) part uncut tariffs = with_report s both.0 both.1 part tariffs
