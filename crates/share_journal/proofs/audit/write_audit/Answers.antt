use Rattle.share_model.specs.declared.line.Line.TheVariants.{Audit}
use Rattle.std.proofs.lemmas.Result.{err_from_is_err_and}
use Rattle.share_model.proofs.lemmas.io.PrintingLemmas.{write_longer, write_then}
use Rattle.share_model.specs.text.Audit.{audit, written_line}
use Rattle.share_journal.proofs.audit.write_audit.Goals as goal

pub returns-in_err-write_line : goal.returns-in_err-write_line
unfolding audit
returns-in_err-write_line g c =
    let p = err_from_is_err_and c.from_residual.result c.from_residual.ensures.1 in
    rw p.1
    (write_longer g.V.TellingWriter.told _ _ (written_line (Audit c.args.version)) _
    c.in_err-write_line.ensures.written)

pub returns : goal.returns
unfolding audit
returns g c =
    write_then g.V.TellingWriter.told c.write_events.result _ _ _ (written_line (Audit c.args.version)) _
    c.in_ok-write_line.ensures.written c.write_events.ensures
