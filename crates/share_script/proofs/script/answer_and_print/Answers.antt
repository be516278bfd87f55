use Rattle.std.proofs.Common.{ap, ◌∙◌}
use Rattle.std.proofs.lemmas.Result.{err_from_is_err_and}
use Rattle.share_model.specs.link.View.{LinkView}
use Rattle.share_model.proofs.lemmas.io.CallLemmas.{offers_more}
use Rattle.share_script.specs.Session.{answer_text}
use Rattle.share_script.proofs.FeedLemmas.{printed_text, printed_text_part}
use Rattle.share_script.proofs.StopLemmas.{stop_refused}
use Rattle.share_script.proofs.script.answer_and_print.Goals as goal

pub returns-in_err-print-clause-printed : goal.returns-in_err-print-clause-printed
returns-in_err-print-clause-printed g c =
    let p = err_from_is_err_and c.from_residual-in_err-print.result c.from_residual-in_err-print.ensures.1 in
    rw p.1
    (printed_text_part _ _ _ _ _ _ c.args.session.now c.args.line.now _ _ c.answer.new.session
    c.in_ok-make_room.ensures.spooled
    (ap (λ (l : LinkView _). answer_text l.live c.in_ok-line_answer.line_answer) c.engine.ensures)
    c.in_err-print.ensures.spooled c.in_ok-line_answer.ensures.says)

pub returns-in_err-print-clause-calls : goal.returns-in_err-print-clause-calls
returns-in_err-print-clause-calls g c =
    let p = err_from_is_err_and c.from_residual-in_err-print.result c.from_residual-in_err-print.ensures.1 in
    rw p.1
    (stop_refused _ _ _ _ _ _ _ _ (p.2 ∙ c.in_err-print.ensures.offers.0)
    (record { called = c.in_ok-line_answer.ensures.called; offers = c.in_ok-make_room.ensures.offers })
    c.in_err-print.ensures.offers.1)

pub returns-clause-printed : goal.returns-clause-printed
returns-clause-printed g c =
    printed_text _ _ _ _ _ _ _ c.args.session.now c.args.line.now _ _ c.answer.new.session
    c.in_ok-make_room.ensures.spooled
    (ap (λ (l : LinkView _). answer_text l.live c.in_ok-line_answer.line_answer) c.engine.ensures)
    c.in_ok-print.ensures.spooled c.in_ok-line_answer.ensures.says c.in_ok-line_answer.ensures.later

pub returns-clause-calls : goal.returns-clause-calls
returns-clause-calls g c = record {
  called = c.in_ok-line_answer.ensures.called;
  offers = offers_more c.in_ok-make_room.ensures.offers c.in_ok-print.ensures.offers;
}
