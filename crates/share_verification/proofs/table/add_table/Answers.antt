use Rattle.share_catalog.specs.Rows.{header_text}
use Rattle.share_verification.proofs.TableLemmas.{by_header, stripped, not_stripped}
use Rattle.share_verification.proofs.table.add_table.Goals as goal

pub returns-in-Some : goal.returns-in-Some
returns-in-Some c =
    let cases = rw c.header_line.ensures at c.in-Some.ensures.cases in
    by_header c.args.text.now c.in-Some.lines.now c.add_lines.new.rows.items c.add_lines.result
    (stripped c.args.text.now header_text c.in-Some.lines.now cases.0 cases.1) c.add_lines.ensures
