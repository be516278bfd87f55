use Rattle.std.proofs.Common.{sym, ◌∙◌}
use Rattle.share_model.specs.declared.reader.Got.TheVariants.{Bytes, End, Interrupted, Failed}
use Rattle.share_control.specs.Attends.{attends_none}
use Rattle.share_control.proofs.AttendingLemmas.{reads_on, reads_last, all_lost, one_lost}
use Rattle.share_control.proofs.RequestLemmas.{at_ok, at_err}
use Rattle.share_control.proofs.attending.converse.Goals as goal

pub loop-init : goal.loop-init
loop-init g c = attends_none

pub returns-then-is_err : goal.returns-then-is_err
returns-then-is_err g c =
    at_err _ c.answer_all.result c.answer_all.ensures.answered (sym c.is_err.ensures.value ∙ c.if-is_err.true)
    (λ e lost. one_lost c.loop.invariant lost)

pub returns-then-is_err-2 : goal.returns-then-is_err-2
returns-then-is_err-2 g c =
    at_ok _ c.answer_all.result c.answer_all.ensures.answered (sym c.is_err.ensures.value ∙ c.if-is_err.false)
    (λ x all. all_lost c.loop.invariant all)

pub loop-preserved-in-Bytes : goal.loop-preserved-in-Bytes
loop-preserved-in-Bytes g c =
    at_ok _ c.answer_all.result c.answer_all.ensures.answered (sym c.is_err.ensures.value ∙ c.if-is_err.false)
    (λ x all. reads_on c.loop.invariant (Bytes c.in-Bytes.field-0) all c.answer_all.ensures.reader
    c.in-Bytes.ensures.came
    tt)

pub loop-preserved : goal.loop-preserved
loop-preserved g c =
    at_ok _ c.answer_all.result c.answer_all.ensures.answered (sym c.is_err.ensures.value ∙ c.if-is_err.false)
    (λ x all. reads_on c.loop.invariant Interrupted all c.answer_all.ensures.reader c.in-Interrupted.ensures.came tt)

pub returns-in-End : goal.returns-in-End
returns-in-End g c =
    at_ok _ c.answer_all.result c.answer_all.ensures.answered (sym c.is_err.ensures.value ∙ c.if-is_err.false)
    (λ x all. reads_last c.loop.invariant End all c.answer_all.ensures.reader c.in-End.ensures.came)

pub returns-in-Failed : goal.returns-in-Failed
returns-in-Failed g c =
    at_ok _ c.answer_all.result c.answer_all.ensures.answered (sym c.is_err.ensures.value ∙ c.if-is_err.false)
    (λ x all. reads_last c.loop.invariant Failed all c.answer_all.ensures.reader c.in-Failed.ensures.came)
