use Rattle.std.proofs.lemmas.Result.{err_from_is_err_and}
use Rattle.share_model.proofs.lemmas.io.CallLemmas.{offers_more, refused_later}
use Rattle.share_script.proofs.SpoolLemmas.{spooled_before, spooled_at_once, spooled_at_once_part}
use Rattle.share_script.proofs.answers.print_report.Goals as goal

pub returns-in_err-put_out-clause-spooled : goal.returns-in_err-put_out-clause-spooled
returns-in_err-put_out-clause-spooled g c =
    let p = err_from_is_err_and c.from_residual.result c.from_residual.ensures.1 in
    rw p.1 (spooled_before _ _ _ _ c.in_err-put_out.ensures.spooled)

pub returns-in_err-report-clause-spooled : goal.returns-in_err-report-clause-spooled
returns-in_err-report-clause-spooled g c =
    let p = err_from_is_err_and c.from_residual-in_err-report.result c.from_residual-in_err-report.ensures.1 in
    rw p.1
    (spooled_at_once_part _ _ _ _ _ c.in_ok-put_out.ensures.spooled c.in_err-report.ensures.0)

pub returns-in_err-report-clause-offers : goal.returns-in_err-report-clause-offers
returns-in_err-report-clause-offers g c =
    let p = err_from_is_err_and c.from_residual-in_err-report.result c.from_residual-in_err-report.ensures.1 in
    rw p.1 (p.2, refused_later c.in_ok-put_out.ensures.offers c.in_err-report.ensures.1)

pub returns-clause-spooled : goal.returns-clause-spooled
returns-clause-spooled g c =
    spooled_at_once _ _ _ _ _ _ c.in_ok-put_out.ensures.spooled c.in_ok-put_out.ensures.none
    c.in_ok-report.ensures.0

pub returns-clause-offers : goal.returns-clause-offers
returns-clause-offers g c = offers_more c.in_ok-put_out.ensures.offers c.in_ok-report.ensures.1
