use Rattle.share_text.specs.Printing.{digits_or_hyphen}
use Rattle.std.proofs.lemmas.Result.{err_from_is_err_and}
use Rattle.share_model.proofs.lemmas.io.PrintingLemmas.{write_longer, write_then}
use Rattle.share_text.proofs.hex.finish_line.Goals as goal

pub returns-in_err-put_digits : goal.returns-in_err-put_digits
returns-in_err-put_digits g c =
    let p = err_from_is_err_and c.from_residual.result c.from_residual.ensures.1 in
    rw p.1
    (write_longer g.O.TellingWriter.told _ _ (digits_or_hyphen c.args.bytes.now) _ c.in_err-put_digits.ensures)

pub returns : goal.returns
returns g c =
    write_then g.O.TellingWriter.told c.put.result _ _ _ (digits_or_hyphen c.args.bytes.now) _
    c.in_ok-put_digits.ensures c.put.ensures
