use Rattle.std.proofs.Common.{inr}
use Rattle.std.proofs.lemmas.Result.{err_from_is_err_and}
use Rattle.share_script.proofs.AnswerLemmas.{untrue}
use Rattle.share_script.proofs.FeedLemmas.{printed_from, printed_part_from, printed_then, printed_part, printed_as}
use Rattle.share_script.proofs.FeedLemmas.{printed_part_as}
use Rattle.share_script.proofs.StopLemmas.{wrote_none, wrote_offers, stop_refused}
use Rattle.share_script.proofs.script.finish.Goals as goal

pub returns-then-is_empty-clause-calls : goal.returns-then-is_empty-clause-calls
returns-then-is_empty-clause-calls g c = wrote_none _ _ _ _

pub returns-in_err-answer_and_print-clause-ends : goal.returns-in_err-answer_and_print-clause-ends
returns-in_err-answer_and_print-clause-ends g c =
    let p = err_from_is_err_and c.from_residual.result c.from_residual.ensures.1 in
    rw p.1 (
      untrue c.is_empty.result c.if-is_empty.false c.is_empty.ensures,
      printed_part_from _ _ _ _ _ c.args.session.now _ c.requires.nothing
          (printed_part_as _ _ _ _ c.args.session.now _ _ c.as_slice.ensures c.in_err-answer_and_print.ensures.printed),
    )

pub returns-in_err-put_out-clause-ends : goal.returns-in_err-put_out-clause-ends
returns-in_err-put_out-clause-ends g c =
    let p = err_from_is_err_and c.from_residual-in_err-put_out.result c.from_residual-in_err-put_out.ensures.1 in
    let printed =
    printed_from _ _ _ _ _ _ c.args.session.now _ _ c.requires.nothing
    (printed_as _ _ _ _ _ c.args.session.now _ _ _ c.as_slice.ensures c.in_ok-answer_and_print.ensures.printed) in
    rw p.1 (
      untrue c.is_empty.result c.if-is_empty.false c.is_empty.ensures,
      printed_part _ _ _ _ _ _ c.args.session.now _ _ printed c.in_err-put_out.ensures.spooled,
    )

pub returns-in_err-put_out-clause-calls : goal.returns-in_err-put_out-clause-calls
returns-in_err-put_out-clause-calls g c =
    let p = err_from_is_err_and c.from_residual-in_err-put_out.result c.from_residual-in_err-put_out.ensures.1 in
    rw p.1 (stop_refused _ _ _ _ _ _ _ _ p.2 c.in_ok-answer_and_print.ensures.calls c.in_err-put_out.ensures.offers)

pub returns-clause-ends : goal.returns-clause-ends
returns-clause-ends g c =
    let printed =
    printed_from _ _ _ _ _ _ c.args.session.now _ _ c.requires.nothing
    (printed_as _ _ _ _ _ c.args.session.now _ _ _ c.as_slice.ensures c.in_ok-answer_and_print.ensures.printed) in
    inr (
      untrue c.is_empty.result c.if-is_empty.false c.is_empty.ensures,
      printed_then _ _ _ _ _ _ _ c.args.session.now _ _ printed c.in_ok-put_out.ensures.spooled,
    )

pub returns-clause-calls : goal.returns-clause-calls
returns-clause-calls g c = wrote_offers c.in_ok-answer_and_print.ensures.calls c.in_ok-put_out.ensures.offers
