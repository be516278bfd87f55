use Rattle.std.proofs.Common.{sym}
use Rattle.share_report.proofs.FlowLemmas.{client_there, book_there, is_there}
use Rattle.share_report.proofs.engine.flow_at.Goals as goal

pub returns-in_err-position : goal.returns-in_err-position
returns-in_err-position g c =
    absurd (is_there _ _ (client_there c.requires c.args.n c.in_ok-row.row (sym c.in_ok-row.ensures))
    c.in_err-position.ensures)

pub returns-in_err-tickets : goal.returns-in_err-tickets
returns-in_err-tickets g c =
    absurd (is_there _ _ (book_there c.requires c.args.n c.in_ok-row.row (sym c.in_ok-row.ensures))
    c.in_err-tickets.ensures)
