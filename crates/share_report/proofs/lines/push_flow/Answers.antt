use Rattle.std.proofs.Common.{◌≡◌, ◌∙◌, ◌++◌, codes, ap, rules}
use Rattle.std.specs.Fmt.{signed_decimal}
use Rattle.share_report.specs.Columns.{column_text}
use Rattle.share_model.specs.text.Report.{flow_line}
use Rattle.share_report.specs.declared.text.Column.TheVariants.{Right}
use Rattle.share_report.proofs.LineLemmas.{field_added, fields_joined}
use Rattle.share_report.proofs.lines.push_flow.Goals as goal

pub returns-clause-bytes : goal.returns-clause-bytes
unfolding flow_line
returns-clause-bytes c =
    let old = c.args.text.now in
    let flow = field_added old (codes "flow ") _ (codes " ") c.push-2.ensures.bytes c.push_number.ensures.bytes
    c.push.ensures.bytes in
    let name = field_added old _ _ (codes " ") c.push-3.ensures.bytes c.push_column.ensures.bytes flow in
    let tickets = field_added old _ _ (codes " ") c.push-4.ensures.bytes c.push_number-2.ensures.bytes name in
    let waiting = field_added old _ _ (codes " ") c.push-5.ensures.bytes c.push_number-3.ensures.bytes tickets in
    let account = field_added old _ _ (codes " ") c.push-6.ensures.bytes c.push_number-4.ensures.bytes waiting in
    let standing = field_added old _ _ (codes " ") c.push-7.ensures.bytes c.push_column-2.ensures.bytes account in
    let number : c.push_number-5.new.self
    ≡ c.push-7.new.self ++ column_text (Right 26) (signed_decimal c.args.flow.now.place) = search rules in
    let place = field_added old _ _ (codes "\n") c.push-8.ensures.bytes number standing in
    place ∙ ap (λ r. old ++ r)
    (rw (c.number.ensures, c.as_bytes.ensures.value, c.standing_word.ensures.word) (fields_joined _ _ _ _ _ _ _))
