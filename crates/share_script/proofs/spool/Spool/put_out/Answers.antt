use Rattle.std.proofs.Common.{◌∙◌}
use Rattle.std.proofs.lemmas.Result.{err_from_is_err_and}
use Rattle.share_script.proofs.SpoolLemmas.{spooled_out, spooled_out_part}
use Rattle.share_script.proofs.spool.Spool.put_out.Goals as goal

pub returns-in_err-put-clause-spooled : goal.returns-in_err-put-clause-spooled
returns-in_err-put-clause-spooled g c =
    let p = err_from_is_err_and c.from_residual.result c.from_residual.ensures.1 in
    rw p.1 (spooled_out_part _ _ _ _ (c.as_slice.ensures.value ∙ c.self.view_is) c.in_err-put.ensures.0)

pub returns-clause-spooled : goal.returns-clause-spooled
returns-clause-spooled g c =
    spooled_out _ _ _ _ (c.as_slice.ensures.value ∙ c.self.view_is) c.in_ok-put.ensures.0
