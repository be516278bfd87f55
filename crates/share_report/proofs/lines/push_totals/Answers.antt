use Rattle.std.proofs.Common.{refl}
use mathlib.Core.List.{append_assoc}
use Rattle.std.proofs.lemmas.List.{append-nil}
use Rattle.share_model.specs.text.Report.{totals_text}
use Rattle.share_report.proofs.lines.push_totals.Goals as goal

pub returns-clause-bytes : goal.returns-clause-bytes
unfolding totals_text
returns-clause-bytes c =
    rw (
      c.push_total-11.ensures.bytes,
      c.push_total-10.ensures.bytes,
      c.push_total-9.ensures.bytes,
      c.push_total-8.ensures.bytes,
      c.push_total-7.ensures.bytes,
      c.push_total-6.ensures.bytes,
      c.push_total-5.ensures.bytes,
      c.push_total-4.ensures.bytes,
      c.push_total-3.ensures.bytes,
      c.push_total-2.ensures.bytes,
      c.push_total.ensures.bytes,
      c.link_number.ensures,
    )
    (simp (append_assoc, append-nil) refl)
