use Rattle.std.proofs.Common.{codes}
use Rattle.std.proofs.lemmas.Result.{err_from_is_err_and}
use Rattle.share_model.proofs.lemmas.io.PrintingLemmas.{write_longer, write_then}
use Rattle.share_text.proofs.hex.print_bytes.Goals as goal

pub returns-in_err-put : goal.returns-in_err-put
returns-in_err-put g c =
    let p = err_from_is_err_and c.from_residual.result c.from_residual.ensures.1 in
    rw p.1 (write_longer g.O.TellingWriter.told _ _ (codes "out ") _ c.in_err-put.ensures)

pub returns : goal.returns
returns g c =
    write_then g.O.TellingWriter.told c.finish_line.result _ _ _ (codes "out ") _ c.in_ok-put.ensures
    c.finish_line.ensures
