use Rattle.std.proofs.Common.{◌≡◌, true, Ok, Err, subst}
use Rattle.share_base.specs.declared.version.Version.{Version}
use Rattle.share_model.specs.io.Calls.{no_call}
use Rattle.share_model.specs.text.Lines.{reading, ReadsLine, is_in_range}
use Rattle.share_script.proofs.AnswerLemmas.{read_ok, answered, unread_said}
use Rattle.share_script.proofs.answers.answer_bytes.Goals as goal

pub returns-in-Ok-clause-says : goal.returns-in-Ok-clause-says
returns-in-Ok-clause-says g c =
    answered _ c.args.engine.now c.answer_line.new.engine c.args.first c.args.bytes.now
    c.in-Ok.line c.answer_line.result
    (subst (λ (version : Version). reading version c.args.bytes.now ≡ Ok c.in-Ok.line) c.version.ensures
    (read_ok c.version.result c.args.bytes.now c.in-Ok.line c.in-Ok.ensures.reads)) c.answer_line.ensures.says

pub returns-in-Err-clause-says : goal.returns-in-Err-clause-says
returns-in-Err-clause-says g c =
    rw c.refusal_answer.ensures
    (unread_said _ c.args.engine.now c.args.first c.args.bytes.now c.in-Err.refusal c.unread.result
    c.spent.result
    (subst (λ (version : Version). ReadsLine version c.args.bytes.now (Err c.in-Err.refusal)) c.version.ensures
    c.in-Err.ensures.reads) c.spent.ensures c.unread.ensures)

pub returns-in-Err-clause-called : goal.returns-in-Err-clause-called
returns-in-Err-clause-called g c = no_call

pub answer_line-requires-clause-in_range : goal.answer_line-requires-clause-in_range
answer_line-requires-clause-in_range g c =
    subst (λ (version : Version). is_in_range version c.in-Ok.line ≡ true) c.version.ensures
    c.in-Ok.ensures.spelled.in_range
